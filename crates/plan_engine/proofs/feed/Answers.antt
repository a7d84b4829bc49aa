-- `plan_engine::feed` meets its contract. Assumes nothing.
use Rattle.plan_engine.specs.Live.{live}
use Rattle.plan_engine.proofs.Acting.{feed-made}
use borrow.Author.Rules.{rules}
use Rattle.plan_engine.proofs.feed.Goals as goal

pub returns : goal.returns
returns c =
    let a = c.args in
    feed-made _ (live a.cells.now a.pending.now a.places.now a.marks) _ _
    c.move_on-ready.ensures _ c.put_inputs-made.ensures
