-- `simulator::start` meets its contract: the start on the plan, which a refused sheet leaves at zeros. Assumes nothing.
use borrow.Author.Rules.{rules}
use Rattle.simulator.proofs.Answers.{start-answer}
use Rattle.simulator.proofs.start.Goals as goal

pub returns : goal.returns
returns c =
    let p = c.prepare-answer.ensures in
    start-answer _ _ _ p.value _ p.plan_after _ c.start-state.ensures
