-- The saved form of a state, form 4: one byte that names the form, a body of 968 bytes, and the counters. "Multi-byte numbers are low
-- byte first."
use Rattle.std.specs.Prelude.{ℕ, ◌+◌, ◌*◌, ◌/◌, ◌%◌, ◌<◌, Bool, true, false, ◌&&◌, List, [], ◌∷◌, ◌++◌, leb, eqb, length, get_or, replicate}
use Rattle.std.proofs.Math.Option.{Option, none, some}
use Rattle.values.specs.Values.{pick}
use Rattle.sheet.specs.Reading.{word_of}
use Rattle.state.specs.declared.Counters.{Counters}
use Rattle.state.specs.declared.State.{State}
use Rattle.state.specs.State.{counters_of}
use Rattle.state.specs.Rows.{rows, list_of, all_below}
use Rattle.saved.specs.declared.Loaded.{Loaded}

-- ---- numbers and flags as bytes

unfoldable pub flag_byte : Bool → ℕ
flag_byte b = pick b 1 0

unfoldable pub word_bytes : ℕ → List ℕ
word_bytes n = n % 256 ∷ n / 256 % 256 ∷ n / 65536 % 256 ∷ n / 16777216 % 256 ∷ []

-- A number of 64 bits: eight bytes
unfoldable pub long_bytes : ℕ → List ℕ
long_bytes n = word_bytes (n % 4294967296) ++ word_bytes (n / 4294967296)

-- ---- saved: the bytes of a state

-- "80 values": "A value is 8 bytes: the number, then the marks of its unknown bits, handed on as they stand (a number under a mark too)."
unfoldable pub value_row : List ℕ → List ℕ → ℕ → List ℕ
value_row ns us v = word_bytes (get_or ns v 0) ++ word_bytes (get_or us v 0)

unfoldable pub value_bytes : List ℕ → List ℕ → List ℕ
value_bytes ns us = rows 80 (value_row ns us)

-- "32 pending slots (1 byte, 0 none or 1 held, then a value)"
unfoldable pub slot_row : List Bool → List ℕ → List ℕ → ℕ → List ℕ
slot_row hs ns us r = flag_byte (get_or hs r false) ∷ value_row ns us r

unfoldable pub slot_bytes : List Bool → List ℕ → List ℕ → List ℕ
slot_bytes hs ns us = rows 32 (slot_row hs ns us)

-- "8 places (1 byte each)"
unfoldable pub place_row : List ℕ → ℕ → List ℕ
place_row ps i = get_or ps i 0 ∷ []

unfoldable pub place_bytes : List ℕ → List ℕ
place_bytes ps = rows 8 (place_row ps)

-- "32 marks (0 or 1)": the wires that are due
unfoldable pub due_row : List Bool → ℕ → List ℕ
due_row ds k = flag_byte (get_or ds k false) ∷ []

unfoldable pub due_bytes : List Bool → List ℕ
due_bytes ds = rows 32 (due_row ds)

-- After the form's number: 968 bytes
unfoldable pub body : State → List ℕ
body st =
    value_bytes st.value st.unknown
    ++ slot_bytes st.held st.pending st.unsure
    ++ place_bytes st.places
    ++ due_bytes st.due

-- The four counts, 8 bytes each
unfoldable pub count_bytes : List ℕ → List ℕ
count_bytes ns = rows 4 (λ u. long_bytes (get_or ns u 0))

-- The four allowances, 4 bytes each
unfoldable pub allowance_bytes : List ℕ → List ℕ
allowance_bytes ns = rows 4 (λ u. word_bytes (get_or ns u 0))

-- The time, the counts and the allowances
unfoldable pub tail : Counters → List ℕ
tail c = long_bytes c.time ++ count_bytes c.counts ++ allowance_bytes c.allowances

-- Form 4: 1,025 bytes
unfoldable pub saved : State → List ℕ
saved st = 4 ∷ body st ++ tail st.counters

-- ---- what stands at a place

-- A list of bytes; past the end `get_or` gives 0.
abbrev pub Bytes : List ℕ → Type 0
Bytes b = (i : ℕ) → get_or b i 0 < 256

unfoldable pub is_flag : List ℕ → ℕ → Bool
is_flag b at = leb (get_or b at 0) 1

-- Are n bytes flags, the first at a place, each `step` bytes after the one before?
unfoldable pub flags : List ℕ → ℕ → ℕ → ℕ → Bool
flags b at step n = all_below n (λ k. is_flag b (at + step * k))

-- Bytes of another length or form are no state.
unfoldable pub is_form : ℕ → ℕ → List ℕ → Bool
is_form form size b = eqb (length b) size && eqb (get_or b 0 0) form

unfoldable pub flag_at : List ℕ → ℕ → Bool
flag_at b at = eqb (get_or b at 0) 1

unfoldable pub flags_at : List ℕ → ℕ → ℕ → List Bool
flags_at b at step = list_of 32 (λ k. flag_at b (at + step * k))

unfoldable pub places_at : List ℕ → ℕ → List ℕ
places_at b at = list_of 8 (λ i. get_or b (at + i) 0)

unfoldable pub long_of : List ℕ → ℕ → ℕ
long_of b at = word_of b at + 4294967296 * word_of b (at + 4)

-- The time, 8 bytes further the counts, 40 bytes further the allowances
unfoldable pub counters_at : List ℕ → ℕ → Counters
counters_at b at =
    counters_of (long_of b at) (list_of 4 (λ u. long_of b (at + 8 + 8 * u))) (list_of 4 (λ u. word_of b (at + 40 + 4 * u)))

-- ---- loaded: the state that bytes are the saved form of. Value v stands at 1 + 8 v, slot r at 641 + 9 r, the places from 929, the marks
-- of wires from 937, the counters from 969.

-- Bytes of another length, form or flag are no state.
unfoldable pub is_saved : List ℕ → Bool
is_saved b = is_form 4 1025 b && flags b 641 9 32 && flags b 937 1 32

unfoldable pub state_in : List ℕ → State
state_in b =
    record {
      value = list_of 80 (λ v. word_of b (1 + 8 * v));
      unknown = list_of 80 (λ v. word_of b (5 + 8 * v));
      pending = list_of 32 (λ r. word_of b (642 + 9 * r));
      unsure = list_of 32 (λ r. word_of b (646 + 9 * r));
      held = flags_at b 641 9;
      places = places_at b 929;
      due = flags_at b 937 1;
      counters = counters_at b 969;
    }

unfoldable pub loaded : List ℕ → Option State
loaded b = pick (is_saved b) (some (state_in b)) none

-- ---- what `load` answers

-- Every number 0 and every flag down.
unfoldable pub zero_state : State
zero_state =
    record {
      value = replicate 80 0;
      unknown = replicate 80 0;
      pending = replicate 32 0;
      unsure = replicate 32 0;
      held = replicate 32 false;
      places = replicate 8 0;
      due = replicate 32 false;
      counters = counters_of 0 (replicate 4 0) (replicate 4 0);
    }

-- Where nothing is found, the state says nothing: it is the one with every number 0.
unfoldable pub loaded_answer : Option State → Loaded
loaded_answer (some st) = record { found = true; state = st }
loaded_answer none = record { found = false; state = zero_state }
