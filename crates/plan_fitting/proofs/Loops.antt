-- What a loop that looks for a number of which a test fails has shown once it has passed the numbers below `i`, and what a turn has
-- found. Assumes nothing.
use mathlib.Core.Path.{◌≡◌, refl, sym}
use mathlib.Core.Bool.{Bool, true, false}
use mathlib.Core.Option.{none, some}
use Prim.Native.Nat.{ℕ, ◌≤◌, ◌<◌}
use native.Mathlib.Omega.{arith}
use lib.ListN.{get_or}
use Rattle.values.specs.declared.Value.{Value}
use Rattle.values.specs.Values.{pick, fits}
use Rattle.values.specs.Planes.{value_at}
use Rattle.state.specs.declared.State.{State}
use Rattle.state.specs.State.{pending_of}
pub use Rattle.state.proofs.Rows.{all_below-step as All-more}
use Rattle.state.proofs.Rows.{all_below-fails}
use Rattle.events.specs.Cycle.{all_below}
use Rattle.events.specs.Calls.{pending_fits}

module _ (f : ℕ → Bool) where
  pub all_none : all_below 0 f ≡ true
  unfolding all_below
  all_none = refl

  pub all_done : (i n : ℕ) → i ≤ n → n ≤ i → all_below i f ≡ true → true ≡ all_below n f
  all_done i n l g h = let e : i ≡ n = omega arith in sym (rw e at h)

  pub all-fails : (i n : ℕ) → i < n → f i ≡ false → false ≡ all_below n f
  all-fails i n l e = sym (all_below-fails f n i l e)

pub value_found : {w u : ℕ} {a b : Value} {x t : Bool} → w ≡ u → a ≡ b → x ≡ fits w a → x ≡ t → fits u b ≡ t
value_found p q e h = cc

pub slot-found :
    (st : State) (r : ℕ) {w u : ℕ} {d : Bool} {a : Value} {x t : Bool} → w ≡ u → d ≡ get_or st.held r false →
    a ≡ value_at st.pending st.unsure r → x ≡ pending_fits w (pick d (some a) none) → x ≡ t →
    pending_fits u (pending_of st r) ≡ t
unfolding pending_of
slot-found st r p q s e h = rw (← p, ← q, ← s, ← e) h
