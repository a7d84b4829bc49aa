-- `clock_run::inputs_fit` meets its contract. Assumes nothing.
use mathlib.Core.Path.{sym, ap, ◌∙◌}
use Prim.Native.Nat.{◌+◌}
use borrow.Author.Tests.{eq-eqb, ne_eqb}
use Rattle.plan.specs.Plan.{plan_of}
use Rattle.clock_run.specs.Running.{values_fit, inputs_fit_on}
use Rattle.clock_run.proofs.inputs_fit.Goals as goal

pub returns-then-count-inputs : goal.returns-then-count-inputs
unfolding inputs_fit_on
returns-then-count-inputs c =
    let p = c.args in
    rw (ne_eqb (p.given.count + 1) (plan_of p.plan.now).inputs
    (λ e. c.if-count-inputs.true (e ∙ sym c.inputs.ensures)))

pub returns : goal.returns
unfolding inputs_fit_on
returns c =
    let p = c.args in
    let q = plan_of p.plan.now in
    rw (eq-eqb (p.given.count + 1) q.inputs (c.if-count-inputs.false ∙ c.inputs.ensures))
    (c.values_fit.ensures ∙ ap (values_fit q 1 p.given.value p.given.unknown 0) c.upper.ensures.value)
