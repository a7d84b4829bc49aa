-- `clock_run::last_of` meets its contract. Assumes nothing.
use Rattle.plan.specs.Plan.{plan_of}
use Rattle.clock_run.proofs.Turns.{last_none, last_some}
use Rattle.clock_run.proofs.last_of.Goals as goal

pub returns-then-r-eq0 : goal.returns-then-r-eq0
returns-then-r-eq0 c =
    let a = c.args in
    last_none (plan_of a.plan.now) a.before a.r _ c.if-r-eq0.true c.refused.ensures

pub returns : goal.returns
returns c =
    let a = c.args in
    last_some (plan_of a.plan.now) a.before a.r _ _ c.if-r-eq0.false c.settle.ensures c.answer.ensures
