-- On a plan of a module, from a state that fits it, a trace leaves in what is lent what the single calls leave. Assumes nothing.
use mathlib.Core.Path.{◌≡◌, refl, ap, ◌∙◌}
use mathlib.Core.List.{List}
use Prim.Native.Nat.{ℕ, zero, suc, ◌+◌, ◌<◌}
use native.Mathlib.Decide.{ℕ_discrete}
use borrow.Author.Tests.{ne_eqb}
use Rattle.sheet.specs.Reading.{ok}
use Rattle.sheet.specs.Expression.{Expr}
use Rattle.sheet.specs.Module.{Module, read}
use Rattle.state.specs.declared.State.{State}
use Rattle.state.specs.State.{users}
use Rattle.events.specs.declared.Inputs.{Inputs}
use Rattle.events.specs.Verdict.{number_of_verdict}
use Rattle.events.specs.Calls.{inputs_fit, instant_refusal}
use Rattle.events.proofs.Choices.{instant_in-accepted, instant_in-refused}
use Rattle.plan.specs.Plan.{Plan}
use Rattle.plan_fitting.specs.Fitting.{plan_inputs_fit}
use Rattle.plan_refinement.specs.Refinement.{PlanOf}
use Rattle.prepared_cycles.specs.Phases.{Moment}
use Rattle.prepared_cycles.specs.Traces.{written, trace_from, trace_from_at}
use Rattle.prepared_cycles.proofs.Courses.{Stood, packed-stood, after, instant-fits, plain_fits, fed, rested, fed-fits, after-stood}
use Rattle.prepared_cycles.proofs.Courses.{phase-accepted, phase-refused}

-- ---- instants

module _ (s : List ℕ) {m : Module Expr} {q : Plan} (k : PlanOf m q) (inputs-fit : (a : Inputs) → plan_inputs_fit q a ≡ inputs_fit m a)
    (e : read s ≡ ok m) (u : ℕ) (user : u < users) (inputs : ℕ → Inputs)
  where
    abbrev Same : ℕ → ℕ → State → Moment → List ℕ → Type 0
    Same n p st o w = trace_from_at q inputs n p o w ≡ trace_from s u inputs n p st w

    abbrev state-after : State → ℕ → State
    state-after st p = (rested s k inputs-fit e u user st (inputs p)).state

    abbrev number-after : State → ℕ → ℕ
    number-after st p = number_of_verdict (rested s k inputs-fit e u user st (inputs p)).verdict

    module _ (n p : ℕ) (st : State) (o : Moment) (z : Stood m u st o) (w : List ℕ) where
      abbrev a : Inputs
      a = inputs p

      refused : (instant_refusal m st a ≡ 0 → ⊥) → Same (suc n) p st o w
      unfolding trace_from_at trace_from
      refused d =
          rw (
            phase-refused s k inputs-fit e u user st o z a d,
            instant-fits s k inputs-fit e u user st z.fit a,
            instant_in-refused m st a d,
            ne_eqb (instant_refusal m st a) 0 d,
          )
          refl

      module _ (x : instant_refusal m st a ≡ 0) where
        went_on : number-after st p ≡ 0
            → Same n (p + 1) (state-after st p) (after q a o) (written p (state-after st p) w) → Same (suc n) p st o w
        unfolding trace_from_at trace_from
        went_on y h =
            rw (
              phase-accepted s k inputs-fit e u user st o z a x,
              instant-fits s k inputs-fit e u user st z.fit a,
              instant_in-accepted m st a x,
              plain_fits s k inputs-fit e u user (fed s k inputs-fit e u user st a) (fed-fits s k inputs-fit e u user st o z a x) 65535,
              y,
            )
            (ap (trace_from_at q inputs n (p + 1) (after q a o))
            (ap (λ (x : State). written p x w) (packed-stood (after-stood s k inputs-fit e u user st o z a x))) ∙ h)

        halted : (number-after st p ≡ 0 → ⊥) → Same (suc n) p st o w
        unfolding trace_from_at trace_from
        halted d =
            rw (
              phase-accepted s k inputs-fit e u user st o z a x,
              instant-fits s k inputs-fit e u user st z.fit a,
              instant_in-accepted m st a x,
              plain_fits s k inputs-fit e u user (fed s k inputs-fit e u user st a) (fed-fits s k inputs-fit e u user st o z a x) 65535,
              ne_eqb (number-after st p) 0 d,
            )
            refl

    pub trace-stood : (n p : ℕ) (st : State) (o : Moment) (w : List ℕ) → Stood m u st o → Same n p st o w
    unfolding trace_from_at trace_from
    trace-stood zero p st o w z = refl
    trace-stood (suc n) p st o w z =
        by (ℕ_discrete (instant_refusal m st (inputs p)) 0)
        (λ x.
        trace-stood n (p + 1) (state-after st p) (after q (inputs p) o) (written p (state-after st p) w)
        (after-stood s k inputs-fit e u user st o z (inputs p) x))
      where
        Next : Type 0
        Next = Same n (p + 1) (state-after st p) (after q (inputs p) o) (written p (state-after st p) w)

        on : instant_refusal m st (inputs p) ≡ 0 → Next → Dec (number-after st p ≡ 0) → Same (suc n) p st o w
        on x h (yes y) = went_on n p st o z w x y h
        on x h (no d) = halted n p st o z w x d

        by : Dec (instant_refusal m st (inputs p) ≡ 0) → (instant_refusal m st (inputs p) ≡ 0 → Next) → Same (suc n) p st o w
        by (no d) h = refused n p st o z w d
        by (yes x) h = on x (h x) (ℕ_discrete (number-after st p) 0)
