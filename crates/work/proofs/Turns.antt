-- The plain run, choice by choice up to its first commit (turn): nothing is enabled, or it runs the lowest enabled thread or wire and
-- goes on from there. Assumes nothing.
use Prim.Native.Nat.{ℕ, zero, suc, ◌+◌, ◌-◌, ◌<◌}
use mathlib.Core.Path.{◌≡◌, refl, sym, ap, ◌∙◌, subst}
use mathlib.Core.Logic.{◌≢◌, ◌⊎◌, inl, inr}
use mathlib.Core.Bool.{Bool, true, false}
use mathlib.Core.List.{List, [], ◌∷◌}
use native.Mathlib.Decide.{ℕ_discrete}
use native.Mathlib.Omega.{arith}
use lib.ListN.{length}
use borrow.Author.Tests.{eq-eqb, ne_eqb, lt-ltb, le-ltb}
use Rattle.values.specs.Values.{pick}
use Rattle.sheet.specs.Expression.{Expr}
use Rattle.sheet.specs.Module.{Module}
use Rattle.state.specs.declared.State.{State}
use Rattle.state.specs.State.{Shaped}
use Rattle.soundness.specs.Soundness.{Sound}
use Rattle.events.specs.declared.Chosen.{Chosen}
use Rattle.events.specs.declared.Rested.{Rested}
use Rattle.events.specs.declared.Verdict.TheVariants.{Quiet, Spent, Stopped}
use Rattle.events.specs.Cycle.{enabled, any_enabled, quiet}
use Rattle.events.specs.Calls.{choose_in, run_by, choices_by, plain_choice}
use Rattle.events.specs.Steps.{Step}
use Rattle.events.proofs.Cycle.{absurd-bool}
use Rattle.events.proofs.Choices.{Ready, thread-ready, wire-ready, commit-ready, enabled-none, quiet-enabled}
use Rattle.events.proofs.Steps.{step-choose_in}
use Rattle.events.proofs.Runs.{resting-accepted, resting-refused, plain-lowest, plain-commit, plain_ready}
use Rattle.work.specs.Work.{has_commit, up_to_commit, wires_of}

module _ (m : Module Expr) (who : ℕ) where
  abbrev pub choices : ℕ → State → List ℕ
  choices n u = choices_by m who (plain_choice m) n u

  -- As on the claim's page, of the run in the module.
  abbrev pub Long : ℕ → State → Type 0
  Long n u = ((run_by m who (plain_choice m) n u).verdict ≡ Quiet) ⊎ (has_commit (choices n u) ≡ true)

  abbrev pub stored : ℕ → State → List ℕ
  stored n u = wires_of m (up_to_commit (choices n u))

  abbrev pub end : ℕ → State → State
  end n u = (run_by m who (plain_choice m) (length (up_to_commit (choices n u))) u).state

  abbrev pub next : State → State
  next u = (choose_in m u who (plain_choice m u)).state

  pub data Turn : ℕ → State → Type 0 where
    rests : {n : ℕ} {u : State} → any_enabled m u ≡ false → stored n u ≡ [] → end n u ≡ u → Turn n u
    thread : {n : ℕ} {u : State} (i : ℕ) → i < length m.threads → Step m u (next u) who i →
        stored (suc n) u ≡ stored n (next u) → end (suc n) u ≡ end n (next u) → Long n (next u) → Turn (suc n) u
    wire : {n : ℕ} {u : State} (k : ℕ) → k < length m.wires → Step m u (next u) who (length m.threads + k) →
        ((c : ℕ) → c < length m.threads + k → enabled m u c ≡ false) →
        stored (suc n) u ≡ k ∷ stored n (next u) → end (suc n) u ≡ end n (next u) → Long n (next u) → Turn (suc n) u

  -- ---- a choice that is accepted

  module _ (n : ℕ) (u : State) (q : quiet m u ≡ false) (z : (choose_in m u who (plain_choice m u)).number ≡ 0) where
    pub choices-goes : choices (suc n) u ≡ plain_choice m u ∷ choices n (next u)
    unfolding choices_by
    choices-goes = rw (q, eq-eqb (choose_in m u who (plain_choice m u)).number 0 z) refl

    pub run-goes : (p : ℕ) →
        run_by m who (plain_choice m) (suc p) u
        ≡ record {
          accepted = (run_by m who (plain_choice m) p (next u)).accepted + 1;
          verdict = (run_by m who (plain_choice m) p (next u)).verdict;
          state = (run_by m who (plain_choice m) p (next u)).state;
        }
    unfolding run_by
    run-goes p = rw (q, resting-accepted u (choose_in m u who (plain_choice m u)) (run_by m who (plain_choice m) p (next u)) z) refl

    -- It is the commit.
    pub commit-there : plain_choice m u ≡ 255 → (stored (suc n) u ≡ []) × (end (suc n) u ≡ u) × (has_commit (choices (suc n) u) ≡ true)
    unfolding up_to_commit wires_of has_commit run_by
    commit-there e =
        let up : choices (suc n) u ≡ 255 ∷ choices n (next u) = choices-goes ∙ ap (λ c. c ∷ choices n (next u)) e in (
          ap (λ (l : List ℕ). wires_of m (up_to_commit l)) up,
          ap (λ (l : List ℕ). (run_by m who (plain_choice m) (length (up_to_commit l)) u).state) up,
          ap has_commit up,
        )

    -- It is an item.
    module _ (c : ℕ) (e : plain_choice m u ≡ c) (d : c ≢ 255) where
      up-to : up_to_commit (choices (suc n) u) ≡ c ∷ up_to_commit (choices n (next u))
      unfolding up_to_commit
      up-to = rw (choices-goes, e, ne_eqb c 255 d) refl

      end_goes : end (suc n) u ≡ end n (next u)
      end_goes =
          ap (λ (l : List ℕ). (run_by m who (plain_choice m) (length l) u).state) up-to
          ∙ ap (λ (r : Rested). r.state) (run-goes (length (up_to_commit (choices n (next u)))))

      pub long-goes : Long (suc n) u → Long n (next u)
      unfolding has_commit
      long-goes (inl h) = inl (sym (ap (λ (r : Rested). r.verdict) (run-goes n)) ∙ h)
      long-goes (inr h) = inr (rw (choices-goes, e, ne_eqb c 255 d) at h)

      pub long-back : Long n (next u) → Long (suc n) u
      unfolding has_commit
      long-back (inl h) = inl (ap (λ (r : Rested). r.verdict) (run-goes n) ∙ h)
      long-back (inr h) = inr (rw (choices-goes, e, ne_eqb c 255 d) h)

      stored-thread : c < length m.threads → stored (suc n) u ≡ stored n (next u)
      unfolding wires_of
      stored-thread l = ap (wires_of m) up-to ∙ (rw (lt-ltb c (length m.threads) l) refl)

      stored-wire : (k : ℕ) → c ≡ length m.threads + k → stored (suc n) u ≡ k ∷ stored n (next u)
      unfolding wires_of
      stored-wire k x =
          let y : c - length m.threads ≡ k = omega arith in
          ap (wires_of m) up-to ∙ (rw (le-ltb c (length m.threads) (omega arith), y) refl)

  -- ---- a choice that is refused: the run is not long enough

  module _ (n : ℕ) (u : State) (q : quiet m u ≡ false) (d : (choose_in m u who (plain_choice m u)).number ≢ 0) where
    verdict-refused : (run_by m who (plain_choice m) (suc n) u).verdict ≡ Stopped (choose_in m u who (plain_choice m u)).number
    unfolding run_by
    verdict-refused =
        rw (q, resting-refused u (choose_in m u who (plain_choice m u)) (run_by m who (plain_choice m) n (next u)) d) refl

    choices-refused : choices (suc n) u ≡ []
    unfolding choices_by
    choices-refused = rw (q, ne_eqb (choose_in m u who (plain_choice m u)).number 0 d) refl

    refused : Long (suc n) u → ⊥
    unfolding has_commit
    refused (inl x) =
        let y : Stopped (choose_in m u who (plain_choice m u)).number ≡ Quiet = sym verdict-refused ∙ x in
        let o : ◌≡◌ {A = ℕ} 0 1 = cc in
        omega arith
    refused (inr x) = absurd-bool x (ap has_commit choices-refused)

  -- ---- a run that takes none

  module _ (n : ℕ) (u : State) where
    nothing-taken : choices n u ≡ [] → (stored n u ≡ []) × (end n u ≡ u)
    unfolding up_to_commit wires_of run_by
    nothing-taken h = (
      ap (λ (l : List ℕ). wires_of m (up_to_commit l)) h,
      ap (λ (l : List ℕ). (run_by m who (plain_choice m) (length (up_to_commit l)) u).state) h,
    )

  -- ---- the lowest enabled item

  pub lower-idle : (u : State) (c : ℕ) → plain_choice m u ≡ c → c ≢ 255 → (d : ℕ) → d < c → enabled m u d ≡ false
  lower-idle u c e x d l = by (any_enabled m u) refl
    where
      by : (t : Bool) → any_enabled m u ≡ t → enabled m u d ≡ false
      by true a = (plain-lowest m u a).2 d (omega arith)
      by false a = absurd (x (sym e ∙ plain-commit m u a))

  module _ (w : Sound m) where
    small : {c : ℕ} (k : ℕ) → c ≡ length m.threads + k → k < length m.wires → c ≢ 255
    small k e l x = omega (arith, w.threads-most, w.wires-most)

    small-thread : {c : ℕ} → c < length m.threads → c ≢ 255
    small-thread l x = omega (arith, w.threads-most)

    pub turn : (n : ℕ) (u : State) → Shaped u → Long n u → Turn n u
    unfolding run_by choices_by has_commit
    turn zero u s h = by (quiet m u) refl h
      where
        by : (t : Bool) → quiet m u ≡ t → (pick t Quiet Spent ≡ Quiet) ⊎ (false ≡ true) → Turn zero u
        by true q h = let x = nothing-taken zero u refl in rests (quiet-enabled m u q) x.0 x.1
        by false q (inl h) = let o : ◌≡◌ {A = ℕ} 0 1 = cc in absurd (omega arith)
        by false q (inr h) = absurd-bool h refl
    turn (suc n) u s h = by (quiet m u) refl (ℕ_discrete r.number 0)
      where
        r : Chosen
        r = choose_in m u who (plain_choice m u)

        ready : quiet m u ≡ false → r.number ≡ 0 → {c : ℕ} → Ready m u c → plain_choice m u ≡ c → Turn (suc n) u
        ready q z (thread-ready {i = i} l x) e =
            let d = small-thread l in
            thread i l (subst (λ c. Step m u (next u) who c) e (step-choose_in m w u s who (plain_choice m u) z))
            (stored-thread n u q z i e d l) (end_goes n u q z i e d) (long-goes n u q z i e d h)
        ready q z (wire-ready {k = k} l x) e =
            let c = length m.threads + k in
            let d = small k refl l in
            wire k l (subst (λ c. Step m u (next u) who c) e (step-choose_in m w u s who (plain_choice m u) z)) (lower-idle u c e d)
            (stored-wire n u q z c e d k refl) (end_goes n u q z c e d) (long-goes n u q z c e d h)
        ready q z (commit-ready x p l y) e = let t = commit-there n u q z e in rests (enabled-none m u x) t.0 t.1

        by : (t : Bool) → quiet m u ≡ t → Dec (r.number ≡ 0) → Turn (suc n) u
        by true q z = let x = nothing-taken (suc n) u (rw q refl) in rests (quiet-enabled m u q) x.0 x.1
        by false q (yes z) = ready q z (plain_ready m u q) refl
        by false q (no d) = absurd (refused n u q d h)
