-- How long is long enough (long-enough): from any state that fits, the plain run comes to quiet or to a commit within all threads'
-- instructions and the wires, while the user's allowance lasts. Assumes nothing.
use Prim.Native.Nat.{ℕ, zero, suc, ◌+◌, ◌-◌, ◌≤◌, ◌<◌}
use mathlib.Core.Path.{◌≡◌, refl, ap, ◌∙◌, subst}
use mathlib.Core.Logic.{◌≢◌, inl, inr}
use mathlib.Core.Bool.{Bool, true, false}
use native.Mathlib.Decide.{ℕ_discrete, dec_lt}
use native.Mathlib.Omega.{arith}
use lib.ListN.{length}
use Rattle.sheet.specs.Expression.{Expr}
use Rattle.sheet.specs.Module.{Module}
use Rattle.state.specs.declared.State.{State}
use Rattle.state.specs.State.{Shaped, users, count_of, allowance_of, is_due}
use Rattle.soundness.specs.Soundness.{Sound}
use Rattle.events.specs.Cycle.{code_of, is_wait, enabled, quiet}
use Rattle.events.specs.Calls.{choose_in, run_by, plain_choice}
use Rattle.events.specs.Steps.{Step}
use Rattle.events.proofs.Cycle.{absurd-bool, current-place}
use Rattle.events.proofs.Choices.{spend-zero, Ready, thread-ready, wire-ready, commit-ready, shaped-choose_in}
use Rattle.events.proofs.Steps.{step-choose_in}
use Rattle.events.proofs.Fits.{Fits}
use Rattle.events.proofs.Runs.{plain_ready, plain-refusal}
use Rattle.nextstate.specs.Ruled.{Ruled}
use Rattle.threads.specs.Resting.{here}
use Rattle.threads.specs.Alone.{Local}
use Rattle.threads.specs.Alone as spec
use Rattle.threads.specs.View.{View}
use Rattle.threads.proofs.Resting.{way-bound}
use Rattle.threads.proofs.View.{seen, turned, view-own, view-other}
use Rattle.settling.specs.Settles.{WireStep}
use Rattle.settling.proofs.Marks.{wire-kept}
use Rattle.phases.specs.Phases.{all_instructions, steps_up_to, Still}
use Rattle.phases.proofs.Counting.{one_more, more-own, more-other, steps-more, steps-none, steps-most}
use Rattle.work.proofs.Turns.{Long, next, commit-there, long-back, lower-idle}
use Rattle.work.proofs.Storing.{idle-thread, idle-wire}

module _ (m : Module Expr) (w : Sound m) (R : Ruled m) (who : ℕ) (four : who < users) where
  -- At most q choices are ahead: threads are on their ways, or all are at waits and the wires below b are done.
  data Ahead (q : ℕ) (u : State) : Type 0 where
    on-ways : (start : ℕ → Local) (steps : ℕ → ℕ) → ((i : ℕ) → i < length m.threads → (start i).place < length (code_of m i)) →
        ((i : ℕ) → i < length m.threads → View m (start i) u i (steps i)) →
        steps_up_to steps (length m.threads) + q ≡ all_instructions m + length m.wires → Ahead q u
    at-waits : (b : ℕ) → Still m u → ((k : ℕ) → k < b → is_due u k ≡ false) → b + q ≡ length m.wires → Ahead q u

  steps-within : (start : ℕ → Local) (steps : ℕ → ℕ) (u : State) →
      ((i : ℕ) → i < length m.threads → (start i).place < length (code_of m i)) →
      ((i : ℕ) → i < length m.threads → View m (start i) u i (steps i)) → steps_up_to steps (length m.threads) ≤ all_instructions m
  unfolding all_instructions
  steps-within start steps u inside view =
      steps-most m steps (length m.threads) (λ i l. let h = way-bound m w R i l (inside i l) (view i l).way in omega arith)

  -- ---- a choice leaves fewer

  abbrev Fewer : ℕ → State → Type 0
  Fewer q new = (p : ℕ) × (p < q) × Ahead p new

  module _ (old new : State) (q : ℕ) where
    ahead-thread : (i : ℕ) → i < length m.threads → Step m old new who i → Ahead q old → Fewer q new
    ahead-thread i l s (at-waits b still clear e) = absurd-bool (still i l) (turned m w R old new i l s).runs
    ahead-thread i l s (on-ways start steps inside view e) =
        let more = steps-more steps i (length m.threads) l in
        let most = steps-within start (one_more steps i) new inside (λ j h. by j h (ℕ_discrete j i)) in
        (q - 1, omega arith, on-ways start (one_more steps i) inside (λ j h. by j h (ℕ_discrete j i)) (omega arith))
      where
        by : (j : ℕ) → j < length m.threads → Dec (j ≡ i) → View m (start j) new j (one_more steps i j)
        by j h (yes d) =
            rw (d, more-own steps i) (view-own m w R old new i l s (start i) (steps i) (view i l))
        by j h (no d) =
            rw (more-other steps i j d) (view-other m w R old new i l s (start j) j (steps j) d (view j h))

    module _ (k : ℕ) (l : k < length m.wires) (s : Step m old new who (length m.threads + k))
        (idle : (c : ℕ) → c < length m.threads + k → enabled m old c ≡ false) where
      abbrev x : WireStep m old new k
      x = wire-kept m w R old new k l s

      past-wire : Ahead (length m.wires - suc k) new
      past-wire =
          at-waits (suc k)
          (λ i h. ap is_wait (current-place m new old i (x.places i)) ∙ idle-thread m old i h (idle i (omega arith)))
          (λ j h. by j h (ℕ_discrete j k)) (omega arith)
        where
          by : (j : ℕ) → j < suc k → Dec (j ≡ k) → is_due new j ≡ false
          by j h (yes e) = rw e x.cleared
          by j h (no d) = x.lower j (omega arith) ∙ idle-wire m old j (idle (length m.threads + j) (omega arith))

      ahead-wire : Ahead q old → Fewer q new
      ahead-wire (on-ways start steps inside view e) =
          let most = steps-within start steps old inside view in
          (length m.wires - suc k, omega arith, past-wire)
      ahead-wire (at-waits b still clear e) = by (dec_lt k b)
        where
          by : Dec (k < b) → Fewer q new
          by (yes h) = absurd-bool x.due (clear k h)
          by (no d) = (length m.wires - suc k, omega arith, past-wire)

  -- ---- the run

  comes : (n q : ℕ) (u : State) → Shaped u → Ahead q u → q < n → count_of u who + q < allowance_of u who → Long m who n u
  unfolding run_by
  comes zero q u s A l room = absurd (omega arith)
  comes (suc n) q u s A l room = by (quiet m u) refl (comes n)
    where
      c : ℕ
      c = plain_choice m u

      z : quiet m u ≡ false → (choose_in m u who c).number ≡ 0
      z h = plain-refusal m u who w four h ∙ spend-zero u who (omega arith)

      step : (h : quiet m u ≡ false) → Step m u (next m who u) who c
      step h = step-choose_in m w u s who c (z h)

      on : ((q : ℕ) (v : State) → Shaped v → Ahead q v → q < n → count_of v who + q < allowance_of v who → Long m who n v) →
          quiet m u ≡ false → Fewer q (next m who u) → Long m who n (next m who u)
      on ih h f =
          let p = f.0 in
          let less : p < q = f.1 in
          ih p (next m who u) (shaped-choose_in m u who c s) f.2 (omega arith) (omega (arith, (step h).count, (step h).allowances who))

      ready : ((q : ℕ) (v : State) → Shaped v → Ahead q v → q < n → count_of v who + q < allowance_of v who → Long m who n v) →
          (h : quiet m u ≡ false) {d : ℕ} → Ready m u d → c ≡ d → Long m who (suc n) u
      ready ih h (thread-ready {i = i} b t) e =
          long-back m who n u h (z h) i e (λ x. omega (arith, w.threads-most))
          (on ih h (ahead-thread u (next m who u) q i b (subst (λ d. Step m u (next m who u) who d) e (step h)) A))
      ready ih h (wire-ready {k = k} b t) e =
          let d = length m.threads + k in
          let small : d ≢ 255 = λ x. omega (arith, w.threads-most, w.wires-most) in
          long-back m who n u h (z h) d e small
          (on ih h
          (ahead-wire u (next m who u) q k b (subst (λ d. Step m u (next m who u) who d) e (step h)) (lower-idle m who u d e small) A))
      ready ih h (commit-ready t p b y) e = inr (commit-there m who n u h (z h) e).2

      by : (t : Bool) → quiet m u ≡ t →
          ((q : ℕ) (v : State) → Shaped v → Ahead q v → q < n → count_of v who + q < allowance_of v who → Long m who n v) →
          Long m who (suc n) u
      by true h ih = inl (rw h refl)
      by false h ih = ready ih h (plain_ready m u h) refl

  starts : (u : State) → Fits m u → Ahead (all_instructions m + length m.wires) u
  unfolding spec.alone seen
  starts u F =
      on-ways (seen u) (λ i. 0) F.places (λ i l. record { way = here; place = refl; values = λ v h. refl; pending = λ r b h. refl })
      (rw (steps-none (length m.threads)) (omega arith))

  pub long-enough : (n : ℕ) (u : State) → Shaped u → Fits m u → all_instructions m + length m.wires < n →
      count_of u who + all_instructions m + length m.wires < allowance_of u who → Long m who n u
  long-enough n u s F l room = comes n (all_instructions m + length m.wires) u s (starts u F) l (omega arith)
