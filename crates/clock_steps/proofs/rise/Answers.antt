-- `clock_steps::rise` meets its contract. Assumes nothing.
use mathlib.Core.Path.{refl}
use Rattle.plan.specs.Plan.{plan_of, node_at}
use Rattle.clock_steps.proofs.Turns.{rises}
use Rattle.clock_steps.proofs.rise.Goals as goal

pub returns : goal.returns
returns c =
    let a = c.args in
    rises (node_at a.lent.now) a.table.now a.numbers.now _ _ (plan_of a.plan.now) c.inputs-first.ensures
    c.registers.ensures c.threads.ensures
    c.at_most-count.ensures.value c.at_most-threads.ensures.value refl c.load.ensures
    c.take.ensures c.store.ensures
