-- `clock_nodes::high_by` meets its contract. Assumes nothing.
use Rattle.clock_nodes.specs.Rows.{high_by}
use Rattle.clock_nodes.proofs.high_by.Goals as goal

pub returns-then-counts : goal.returns-then-counts
unfolding high_by
returns-then-counts c =
    rw c.if-counts.true c.higher.ensures

pub returns-else-counts : goal.returns-else-counts
unfolding high_by
returns-else-counts c =
    rw c.if-counts.false
