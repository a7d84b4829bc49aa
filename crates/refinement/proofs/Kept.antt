-- What a change relies on in a state, at its start and in its midst; a state that fits the sheet has it. Assumes nothing.
use mathlib.Core.Path.{◌≡◌, refl, ◌∙◌}
use mathlib.Core.Bool.{Bool, true, false}
use mathlib.Core.Option.{none, some}
use Prim.Native.Nat.{ℕ, ◌+◌, ◌≤◌, ◌<◌}
use native.Mathlib.Omega.{arith}
use lib.ListN.{length, get_or, set, length-set}
use Rattle.values.specs.declared.Value.{Value}
use Rattle.values.specs.Values.{pick}
use Rattle.values.specs.Planes.{value_at}
use Rattle.sheet.specs.Expression.{Expr}
use Rattle.sheet.specs.Module.{Module}
use Rattle.pseudocode.specs.Translation.{Instr}
use Rattle.state.specs.declared.Counters.{Counters}
use Rattle.state.specs.declared.State.{State}
use Rattle.state.specs.State.{Shaped, counters_of, count_of, with_counters, with_value, pending_of, without_pending, place_of, is_due, with_due}
use Rattle.state.proofs.Accessors.{shaped-with_value, place-with_value, due-with_value, pending-with_value}
use Rattle.state.proofs.Accessors.{shaped-without_pending, place-without_pending, due-without_pending}
use Rattle.state.proofs.Accessors.{pending-without_pending-other}
use Rattle.state.proofs.Accessors.{shaped-with_due, place-with_due, due-with_due-other, pending-with_due}
use Rattle.state.proofs.Accessors.{shaped-with_counters, place-with_counters, due-with_counters, pending-with_counters}
use Rattle.soundness.specs.Soundness.{Sound, SoundInstr, sound-wait, sound-set, sound-later, sound-go, sound-ifnot}
use Rattle.events.specs.Cycle.{code_of, instr_at, is_some, wait_fires}
use Rattle.events.specs.Calls.{counted_by, counted, timed}
use Rattle.events.proofs.Cycle.{absurd-bool}
use Rattle.events.proofs.Fits.{Fits}

-- The lengths, places inside their threads, no mark past the wires and no pending value past the registers.
pub record Kept (m : Module Expr) (st : State) : Type 0 where
  pub shaped : Shaped st
  pub places : (i : ℕ) → i < length m.threads → place_of st i < length (code_of m i)
  pub marks : (k : ℕ) → length m.wires ≤ k → is_due st k ≡ false
  pub pending : (r : ℕ) → m.scope.registers ≤ r → pending_of st r ≡ none

-- ---- a register's flag, and its pending value

module _ (st : State) (r : ℕ) where
  pub flag-none : pending_of st r ≡ none → get_or st.held r false ≡ false
  unfolding pending_of
  flag-none h = by (get_or st.held r false) (value_at st.pending st.unsure r) h
    where
      by : (t : Bool) (a : Value) → pick t (some a) none ≡ none → t ≡ false
      by true a e = let z : ◌≡◌ {A = ℕ} 0 1 = cc in absurd (omega arith)
      by false a e = refl

  pub pending-flag : is_some (pending_of st r) ≡ get_or st.held r false
  unfolding pending_of is_some
  pending-flag = by (get_or st.held r false) (value_at st.pending st.unsure r)
    where
      by : (t : Bool) (a : Value) → is_some (pick t (some a) none) ≡ t
      by true a = refl
      by false a = refl

-- ---- a state that fits the sheet

pub fits_kept : {m : Module Expr} {st : State} → Shaped st → Fits m st → Kept m st
fits_kept s f = record { shaped = s; places = f.places; marks = f.marks-past; pending = f.pending-past }

-- ---- a sound thread stays inside its code

module _ {m : Module Expr} (w : Sound m) (i : ℕ) (h : i < length m.threads) (p : ℕ) (l : p < length (code_of m i)) where
  pub sound-at : SoundInstr m.scope (length (code_of m i)) p (instr_at (code_of m i) p)
  unfolding code_of instr_at
  sound-at = (w.code i h).instruction p l

  -- A wait is never the last instruction.
  pub wait-goes-on : (f g : ℕ → Value) → wait_fires (instr_at (code_of m i) p) f g ≡ true → p + 1 < length (code_of m i)
  unfolding wait_fires
  wait-goes-on f g e = by sound-at e
    where
      by : {n : ℕ} {x : Instr Expr} → SoundInstr m.scope n p x → wait_fires x f g ≡ true → p + 1 < n
      by (sound-wait b v) e = b
      by (sound-set b t) e = b
      by (sound-later b t) e = b
      by (sound-go b) e = absurd-bool e refl
      by (sound-ifnot u b c d) e = b

-- ---- each part set anew

module _ {m : Module Expr} {st : State} (k : Kept m st) where
  pub kept-with_counters : (c : Counters) → length c.counts ≡ 4 → length c.allowances ≡ 4 → Kept m (with_counters st c)
  kept-with_counters c p q =
      record {
        shaped = shaped-with_counters st c k.shaped p q;
        places = λ i h. rw (place-with_counters st c i) (k.places i h);
        marks = λ j h. due-with_counters st c j ∙ k.marks j h;
        pending = λ r h. pending-with_counters st c r ∙ k.pending r h;
      }

  pub kept-with_value : (v : ℕ) (a : Value) → Kept m (with_value st v a)
  kept-with_value v a =
      record {
        shaped = shaped-with_value st v a k.shaped;
        places = λ i h. rw (place-with_value st v a i) (k.places i h);
        marks = λ j h. due-with_value st v a j ∙ k.marks j h;
        pending = λ r h. pending-with_value st v a r ∙ k.pending r h;
      }

  pub kept-without_pending : (r : ℕ) → r < m.scope.registers → Kept m (without_pending st r)
  kept-without_pending r l =
      record {
        shaped = shaped-without_pending st r k.shaped;
        places = λ i h. rw (place-without_pending st r i) (k.places i h);
        marks = λ j h. due-without_pending st r j ∙ k.marks j h;
        pending = λ s h. pending-without_pending-other st r s (λ e. omega arith) ∙ k.pending s h;
      }

  pub kept-unmarked : (j : ℕ) → j < length m.wires → Kept m (with_due st j false)
  kept-unmarked j l =
      record {
        shaped = shaped-with_due st j false k.shaped;
        places = λ i h. rw (place-with_due st j false i) (k.places i h);
        marks = λ n h. due-with_due-other st j false n (λ e. omega arith) ∙ k.marks n h;
        pending = λ r h. pending-with_due st j false r ∙ k.pending r h;
      }

  pub kept-counted : (u : ℕ) → Kept m (counted u st)
  unfolding counted counted_by
  kept-counted u =
      kept-with_counters (counters_of st.counters.time (set st.counters.counts u (count_of st u + 1)) st.counters.allowances)
      (length-set st.counters.counts u (count_of st u + 1) ∙ k.shaped.counts) k.shaped.allowances

  pub kept-timed : Kept m (timed st)
  unfolding timed
  kept-timed =
      kept-with_counters (counters_of (st.counters.time + 1) st.counters.counts st.counters.allowances) k.shaped.counts
      k.shaped.allowances
