-- The course of a run that picks its choices from the states that it reaches: each choice that it takes is a step from one state to
-- the next, and two runs one after the other are one. Assumes nothing.
use mathlib.Core.Path.{◌≡◌, refl}
use mathlib.Core.Logic.{◌≢◌, ◌⊎◌, inl, inr}
use mathlib.Core.Bool.{Bool, true, false}
use mathlib.Core.List.{[], ◌∷◌, ◌++◌}
use Prim.Native.Nat.{ℕ, zero, suc, ◌+◌, ◌<◌}
use native.Mathlib.Decide.{ℕ_discrete}
use native.Mathlib.Omega.{arith}
use lib.ListN.{length, get_or}
use borrow.Author.Tests.{eq-eqb, ne_eqb}
use Rattle.sheet.specs.Expression.{Expr}
use Rattle.sheet.specs.Module.{Module}
use Rattle.state.specs.declared.State.{State}
use Rattle.state.specs.State.{Shaped}
use Rattle.soundness.specs.Soundness.{Sound}
use Rattle.events.specs.declared.Chosen.{Chosen}
use Rattle.events.specs.Cycle.{quiet}
use Rattle.events.specs.Calls.{choose_in, run_by, choices_by}
use Rattle.events.specs.Steps.{Step}
use Rattle.events.proofs.Choices.{shaped-choose_in}
use Rattle.events.proofs.Steps.{step-choose_in}
use Rattle.events.proofs.Runs.{resting-accepted, resting-refused}

module _ (m : Module Expr) (who : ℕ) (next : State → ℕ) where
  -- ---- it goes on from a state, or takes nothing and stays there

  data Going (st : State) : Type 0 where
    goes : quiet m st ≡ false → (choose_in m st who (next st)).number ≡ 0 → Going st
    rests : ((n : ℕ) → choices_by m who next n st ≡ []) → ((n : ℕ) → (run_by m who next n st).state ≡ st) → Going st

  going : (st : State) → Going st
  unfolding choices_by run_by
  going st = by (quiet m st) refl (ℕ_discrete r.number 0)
    where
      r : Chosen
      r = choose_in m st who (next st)

      Stops : Type 0
      Stops = (quiet m st ≡ true) ⊎ ((quiet m st ≡ false) × (r.number ≢ 0))

      no-choices : Stops → (n : ℕ) → choices_by m who next n st ≡ []
      no-choices h zero = refl
      no-choices (inl q) (suc n) = rw q
      no-choices (inr d) (suc n) = rw (d.0, ne_eqb r.number 0 d.1)

      same-state : Stops → (n : ℕ) → (run_by m who next n st).state ≡ st
      same-state h zero = refl
      same-state (inl q) (suc n) = rw q
      same-state (inr d) (suc n) = rw (d.0, resting-refused st r (run_by m who next n r.state) d.1)

      by : (t : Bool) → quiet m st ≡ t → Dec (r.number ≡ 0) → Going st
      by true q d = rests (no-choices (inl q)) (same-state (inl q))
      by false q (yes z) = goes q z
      by false q (no d) = rests (no-choices (inr (q, d))) (same-state (inr (q, d)))

  module _ (st : State) (q : quiet m st ≡ false) (z : (choose_in m st who (next st)).number ≡ 0) where
    mid : State
    mid = (choose_in m st who (next st)).state

    state-goes : (p : ℕ) → (run_by m who next (suc p) st).state ≡ (run_by m who next p mid).state
    unfolding run_by mid
    state-goes p = rw (q, resting-accepted st (choose_in m st who (next st)) (run_by m who next p mid) z) refl

    choices-goes : (n : ℕ) → choices_by m who next (suc n) st ≡ next st ∷ choices_by m who next n mid
    unfolding choices_by mid
    choices-goes n = rw (q, eq-eqb (choose_in m st who (next st)).number 0 z) refl

  -- ---- choice p of a run of at most n, and its step

  pub record Course (n p : ℕ) (st : State) : Type 0 where
    pub choice : get_or (choices_by m who next n st) p 255 ≡ next (run_by m who next p st).state
    pub step : Step m (run_by m who next p st).state (run_by m who next (suc p) st).state who (next (run_by m who next p st).state)

  choices-zero : (st : State) → choices_by m who next 0 st ≡ []
  unfolding choices_by
  choices-zero st = refl

  pub course : Sound m → (n p : ℕ) (st : State) → Shaped st → p < length (choices_by m who next n st) → Course n p st
  unfolding run_by mid
  course w zero p st s l = let x : p < 0 = rw (choices-zero st) at l in absurd (omega arith)
  course w (suc n) p st s l = by p (going st) (λ q k. course w n q u (shaped-choose_in m st who (next st) s) k) l
    where
      u : State
      u = (choose_in m st who (next st)).state

      by : (p : ℕ) → Going st → ((r : ℕ) → r < length (choices_by m who next n u) → Course n r u) →
          p < length (choices_by m who next (suc n) st) → Course (suc n) p st
      by p (rests h e) rest k = let x : p < 0 = rw (h (suc n)) at k in absurd (omega arith)
      by zero (goes q z) rest k =
          record {
            choice = rw (choices-goes st q z n) refl;
            step = rw (state-goes st q z 0) (step-choose_in m w st s who (next st) z);
          }
      by (suc r) (goes q z) rest k =
          let x : suc r < suc (length (choices_by m who next n u)) = rw (choices-goes st q z n) at k in
          let c = rest r (omega arith) in
          record {
            choice = rw (choices-goes st q z n, state-goes st q z r) c.choice;
            step = rw (state-goes st q z r, state-goes st q z (suc r)) c.step;
          }

  -- ---- two runs one after the other

  pub state-joined : (a b : ℕ) (st : State) → (run_by m who next (a + b) st).state ≡ (run_by m who next b (run_by m who next a st).state).state
  unfolding run_by mid
  state-joined zero b st = let e : 0 + b ≡ b = omega arith in rw e refl
  state-joined (suc a) b st = by (going st) (state-joined a b (choose_in m st who (next st)).state)
    where
      u : State
      u = (choose_in m st who (next st)).state

      by : Going st → (run_by m who next (a + b) u).state ≡ (run_by m who next b (run_by m who next a u).state).state →
          (run_by m who next (suc a + b) st).state ≡ (run_by m who next b (run_by m who next (suc a) st).state).state
      by (goes q z) ih =
          let e : suc a + b ≡ suc (a + b) = omega arith in
          rw (e, state-goes st q z (a + b), state-goes st q z a) ih
      by (rests h same) ih = rw (same (suc a + b), same (suc a), same b) refl

  pub choices-joined :
      (a b : ℕ) (st : State) →
      choices_by m who next (a + b) st ≡ choices_by m who next a st ++ choices_by m who next b (run_by m who next a st).state
  unfolding run_by mid
  choices-joined zero b st = let e : 0 + b ≡ b = omega arith in rw (e, choices-zero st) refl
  choices-joined (suc a) b st = by (going st) (choices-joined a b (choose_in m st who (next st)).state)
    where
      u : State
      u = (choose_in m st who (next st)).state

      by : Going st → choices_by m who next (a + b) u ≡ choices_by m who next a u ++ choices_by m who next b (run_by m who next a u).state →
          choices_by m who next (suc a + b) st
          ≡ choices_by m who next (suc a) st ++ choices_by m who next b (run_by m who next (suc a) st).state
      by (goes q z) ih =
          let e : suc a + b ≡ suc (a + b) = omega arith in
          rw (e, choices-goes st q z (a + b), choices-goes st q z a, state-goes st q z a, ih) refl
      by (rests none same) ih = rw (none (suc a + b), none (suc a), same (suc a), none b) refl
