-- `plan_exprs::put_node` meets its contract. Assumes nothing.
use borrow.Author.Tests.{lt-ltb, le-ltb}
use Rattle.plan_exprs.specs.Flatten.{put_node}
use Rattle.plan_exprs.proofs.put_node.Goals as goal

pub returns-then-n-ge4176 : goal.returns-then-n-ge4176
unfolding put_node
returns-then-n-ge4176 c =
    rw (le-ltb _ _ c.if-n-ge4176.true)

pub returns : goal.returns
unfolding put_node
returns c =
    rw (lt-ltb _ _ c.if-n-ge4176.false)
