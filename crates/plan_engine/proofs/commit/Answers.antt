-- `plan_engine::commit` meets its contract. Assumes nothing.
use Rattle.plan_engine.specs.Live.{live}
use Rattle.plan_engine.proofs.Acting.{commit-made}
use borrow.Author.Rules.{rules}
use Rattle.plan_engine.proofs.commit.Goals as goal

pub returns : goal.returns
returns c =
    let a = c.args in
    commit-made _ (live a.cells.now a.pending.now a.places.now a.marks) _ _
    c.move_on-ready.ensures c.put_pending-made.ensures
