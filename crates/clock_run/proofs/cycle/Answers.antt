-- `clock_run::cycle` meets its contract. Assumes nothing.
use mathlib.Core.Path.{sym, ◌∙◌}
use Rattle.plan.specs.Plan.{plan_of, node_at}
use Rattle.clock_run.specs.Running.{cycle_on}
use Rattle.clock_run.proofs.Turns.{cycled}
use Rattle.clock_run.proofs.cycle.Goals as goal

pub returns-then-not-registers_fit : goal.returns-then-not-registers_fit
unfolding cycle_on
returns-then-not-registers_fit c =
    rw (sym c.registers_fit.ensures ∙ c.if-not-registers_fit.true) c.refused.ensures

pub returns-then-not-inputs_fit : goal.returns-then-not-inputs_fit
unfolding cycle_on
returns-then-not-inputs_fit c =
    rw (
      sym c.registers_fit.ensures ∙ c.if-not-registers_fit.false,
      sym c.inputs_fit.ensures ∙ c.if-not-inputs_fit.true,
    )
    c.refused-then-not-inputs_fit.ensures

pub returns : goal.returns
returns c =
    let a = c.args in
    cycled (plan_of a.plan.now) (node_at a.lent.now) a.table.now a.numbers.now a.before a.given
    (sym c.registers_fit.ensures ∙ c.if-not-registers_fit.false)
    (sym c.inputs_fit.ensures ∙ c.if-not-inputs_fit.false)
    c.upper.ensures.value c.hand.ensures c.put_values.ensures c.settle.ensures c.rise.ensures
    c.settle-2.ensures
    c.answer.ensures
