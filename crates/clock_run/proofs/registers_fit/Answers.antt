-- `clock_run::registers_fit` meets its contract. Assumes nothing.
use Rattle.plan.specs.Plan.{plan_of}
use Rattle.clock_run.specs.Running.{registers_fit_on}
use Rattle.clock_run.proofs.Turns.{values-judged}
use Rattle.clock_run.proofs.registers_fit.Goals as goal

pub returns-then-values_fit : goal.returns-then-values_fit
unfolding registers_fit_on
returns-then-values_fit c =
    let a = c.args in
    rw (values-judged (plan_of a.plan.now) a.before c.inputs-first.ensures c.registers-n.ensures c.values_fit.ensures
    c.if-values_fit.true)
    c.places_wait.ensures

pub returns-else-values_fit : goal.returns-else-values_fit
unfolding registers_fit_on
returns-else-values_fit c =
    let a = c.args in
    rw (
      c.if-values_fit.false,
      values-judged (plan_of a.plan.now) a.before c.inputs-first.ensures c.registers-n.ensures c.values_fit.ensures
          c.if-values_fit.false,
    )
