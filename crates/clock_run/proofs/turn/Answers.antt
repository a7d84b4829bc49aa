-- `clock_run::turn` meets its contract. Assumes nothing.
use Rattle.plan.specs.Plan.{plan_of, node_at}
use Rattle.clock_run.proofs.Turns.{turn_is}
use Rattle.clock_run.proofs.turn.Goals as goal

pub returns : goal.returns
returns c =
    let a = c.args in
    turn_is (plan_of a.plan.now) (node_at a.lent.now) a.table.now a.numbers.now _ _ c.settle.ensures c.rise.ensures
