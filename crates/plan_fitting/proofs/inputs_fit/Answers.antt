-- `plan_fitting::inputs_fit` meets its contract. Assumes nothing.
use mathlib.Core.Path.{◌≡◌, sym, ◌∙◌}
use borrow.Author.Tests.{eq-eqb, ne_eqb}
use Rattle.events.specs.Calls.{input_of}
use Rattle.plan.specs.Plan.{plan_of}
use Rattle.plan_fitting.specs.Fitting.{plan_inputs_fit}
use borrow.Author.Rules.{rules}
use Rattle.plan_fitting.proofs.inputs_fit.Goals as goal

pub returns-else-a-n : goal.returns-else-a-n
unfolding plan_inputs_fit
returns-else-a-n c =
    let p = c.args in
    rw (ne_eqb p.a.count (plan_of p.plan.now).inputs (λ e. c.if-a-n.false (e ∙ sym c.inputs-n.ensures)))
    (ne_eqb _ _ c.if-a-n.false)

pub returns-then-a-n : goal.returns-then-a-n
unfolding plan_inputs_fit input_of
returns-then-a-n c =
    let p = c.args in
    let e = c.values_fit.ensures in
    rw (eq-eqb p.a.count (plan_of p.plan.now).inputs (c.if-a-n.true ∙ c.inputs-n.ensures))
    (rw c.inputs-n.ensures at e)
