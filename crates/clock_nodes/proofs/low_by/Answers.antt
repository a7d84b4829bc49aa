-- `clock_nodes::low_by` meets its contract. Assumes nothing.
use Rattle.clock_nodes.specs.Rows.{low_by}
use Rattle.clock_nodes.proofs.low_by.Goals as goal

pub returns-then-counts : goal.returns-then-counts
unfolding low_by
returns-then-counts c =
    rw c.if-counts.true c.lower.ensures

pub returns-else-counts : goal.returns-else-counts
unfolding low_by
returns-else-counts c =
    rw c.if-counts.false
