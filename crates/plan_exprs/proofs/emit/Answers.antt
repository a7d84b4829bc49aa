-- `plan_exprs::emit` meets its contract. Assumes nothing.
use Rattle.plan_exprs.specs.Flatten.{emit}
use Rattle.plan_exprs.proofs.emit.Goals as goal

pub returns : goal.returns
unfolding emit
returns c =
    rw (c.more.ensures, c.put_node.ensures)
