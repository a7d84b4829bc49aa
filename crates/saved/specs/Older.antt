-- The older saved forms, and how a state of any form is brought over. Forms 1 to 3 have a body of 632 bytes, which knows a value as a
-- number or as x. Forms 1 and 2 have one count, of 4 and of 8 bytes; form 3 has form 4's counters.
use Rattle.std.specs.Prelude.{ℕ, ◌+◌, ◌*◌, Bool, false, ◌&&◌, List, [], ◌∷◌, ◌++◌, ltb, leb, get_or, take, drop}
use Rattle.values.specs.declared.Value.{Value}
use Rattle.values.specs.Values.{pick, known, all_unknown}
use Rattle.values.specs.Planes.{number_of, marks_of}
use Rattle.sheet.specs.Reading.{Res, ok, no, word_of}
use Rattle.sheet.specs.Expression.{Expr, Scope}
use Rattle.sheet.specs.Module.{Module, read}
use Rattle.state.specs.declared.Counters.{Counters}
use Rattle.state.specs.declared.State.{State}
use Rattle.state.specs.State.{counters_of, count_of, allowance_of}
use Rattle.state.specs.Rows.{rows, list_of}
use Rattle.saved.specs.declared.Brought.{Brought}
use Rattle.saved.specs.Saved.{flag_byte, word_bytes, long_bytes, place_bytes, due_bytes, tail}
use Rattle.saved.specs.Saved.{is_form, flags, flag_at, flags_at, places_at, long_of, counters_at, is_saved, state_in, zero_state}

-- ---- the older forms of what a state was before unknown bits had marks

pub record Older : Type 0 where
  pub value : List ℕ
  pub unknown : List Bool
  pub pending : List ℕ
  pub unsure : List Bool
  pub held : List Bool
  pub places : List ℕ
  pub due : List Bool

-- A value is 5 bytes: 1 for x or 0 for a known number, then four bytes of number, as they stand, also under x.
unfoldable pub older_row : List ℕ → List Bool → ℕ → List ℕ
older_row ns xs v = flag_byte (get_or xs v false) ∷ word_bytes (get_or ns v 0)

unfoldable pub older_slot : List Bool → List ℕ → List Bool → ℕ → List ℕ
older_slot hs ns xs r = flag_byte (get_or hs r false) ∷ older_row ns xs r

-- After the form's number: 632 bytes
unfoldable pub older_body : Older → List ℕ
older_body o =
    rows 80 (older_row o.value o.unknown)
    ++ rows 32 (older_slot o.held o.pending o.unsure)
    ++ place_bytes o.places
    ++ due_bytes o.due

-- Form 1, a time and a count of 4 bytes each: 641 bytes
unfoldable pub saved_short : Older → ℕ → ℕ → List ℕ
saved_short o time count = 1 ∷ older_body o ++ (word_bytes time ++ word_bytes count)

-- Form 2: 649 bytes
unfoldable pub saved_long : Older → ℕ → ℕ → List ℕ
saved_long o time count = 2 ∷ older_body o ++ (long_bytes time ++ long_bytes count)

-- Form 3: 689 bytes
unfoldable pub saved_users : Older → Counters → List ℕ
saved_users o c = 3 ∷ older_body o ++ tail c

-- ---- read: value v stands at 1 + 5 v, slot r at 401 + 6 r, the places from 593, the marks of wires from 601, the counters from 633

-- Bytes of another length, form or flag are no state.
unfoldable pub is_older : ℕ → ℕ → List ℕ → Bool
is_older form size b = is_form form size b && flags b 1 5 80 && flags b 401 6 32 && flags b 402 6 32 && flags b 601 1 32

-- "An x of forms 1 to 3 becomes number 0 with marks on all bits of its variable's width": w is that width.
unfoldable pub older_value : ℕ → List ℕ → ℕ → Value
older_value w b at = pick (flag_at b at) (all_unknown w) (known (word_of b (at + 1)))

-- The state, by the width of each variable and of each slot's register; "held or not".
unfoldable pub older_in : (ℕ → ℕ) → (ℕ → ℕ) → List ℕ → Counters → State
older_in width slot b c =
    record {
      value = list_of 80 (λ v. number_of (older_value (width v) b (1 + 5 * v)));
      unknown = list_of 80 (λ v. marks_of (older_value (width v) b (1 + 5 * v)));
      pending = list_of 32 (λ r. number_of (older_value (slot r) b (402 + 6 * r)));
      unsure = list_of 32 (λ r. marks_of (older_value (slot r) b (402 + 6 * r)));
      held = flags_at b 401 6;
      places = places_at b 593;
      due = flags_at b 601 1;
      counters = c;
    }

-- ---- older_over: "A state saved with one count is brought over with that count as user 0's, 0 for the others, and allowances handed to
-- the call; one above user 0's allowance is 31." Bytes that are no saved state are 31 too; form 3 has its own allowances.

unfoldable pub alone : ℕ → ℕ → List ℕ → Counters
alone time count allowances = counters_of time (count ∷ 0 ∷ 0 ∷ 0 ∷ []) allowances

unfoldable pub taken : State → Brought
taken st = record { number = 0; state = st }

unfoldable pub refused : ℕ → Brought
refused n = record { number = n; state = zero_state }

-- "one above user 0's allowance is 31"
unfoldable pub admitted : State → Brought
admitted st = pick (leb (count_of st 0) (allowance_of st 0)) (taken st) (refused 31)

unfoldable pub older_over : (ℕ → ℕ) → (ℕ → ℕ) → List ℕ → List ℕ → Brought
older_over width slot b allowances =
    pick (is_older 3 689 b) (taken (older_in width slot b (counters_at b 633)))
    (pick (is_older 2 649 b) (admitted (older_in width slot b (alone (long_of b 633) (long_of b 641) allowances)))
    (pick (is_older 1 641 b) (admitted (older_in width slot b (alone (word_of b 633) (word_of b 637) allowances)))
    (refused 31)))

-- ---- brought_over: the sheet's numbers, then 31. Form 4 "is taken as it is".

-- "its variable's width (a pending value: its register's; past the sheet's 32 marks)"
unfoldable pub variable_width : Scope → ℕ → ℕ
variable_width c v = get_or c.widths v 32

unfoldable pub register_width : Scope → ℕ → ℕ
register_width c r = get_or (take c.registers (drop c.inputs c.widths)) r 32

-- The same by the sheet's bytes: the width of item k of n, the first at a place.
unfoldable pub width_in : List ℕ → ℕ → ℕ → ℕ → ℕ
width_in s first n k = pick (ltb k n) (get_or s (first + k) 0) 32

unfoldable pub over_of : Res (Module Expr) → List ℕ → List ℕ → Brought
over_of (no n p) b allowances = refused n
over_of (ok m) b allowances =
    pick (is_saved b) (taken (state_in b)) (older_over (variable_width m.scope) (register_width m.scope) b allowances)

unfoldable pub brought_over : List ℕ → List ℕ → List ℕ → Brought
brought_over s b allowances = over_of (read s) b allowances
