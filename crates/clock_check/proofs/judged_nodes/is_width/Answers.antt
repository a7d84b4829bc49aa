-- `clock_check::judged_nodes::is_width` meets its contract. Assumes nothing.
use borrow.Author.Tests.{le-leb, lt-leb}
use Rattle.nodes.specs.Cells.{is_width}
use Rattle.clock_check.proofs.judged_nodes.is_width.Goals as goal

pub returns-then-w-ge1 : goal.returns-then-w-ge1
unfolding is_width
returns-then-w-ge1 c =
    rw (le-leb _ _ c.if-w-ge1.true)

pub returns-else-w-ge1 : goal.returns-else-w-ge1
unfolding is_width
returns-else-w-ge1 c =
    rw (lt-leb _ _ c.if-w-ge1.false)
