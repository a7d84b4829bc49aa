-- `clock_check::judged_nodes::node_width` meets its contract, by the kind of node. Assumes nothing.
use Rattle.nodes.specs.Cells.{node_of}
use Rattle.clock_check.specs.Judging.{width_on}
use Rattle.clock_check.proofs.judged_nodes.node_width.Goals as goal

pub returns-in-Variable : goal.returns-in-Variable
unfolding node_of width_on
returns-in-Variable c =
    rw (c.in-Variable.is, c.width.ensures)

pub returns-in-Unary : goal.returns-in-Unary
unfolding node_of width_on
returns-in-Unary c =
    rw (c.in-Unary.is, c.unary_width.ensures, c.size_at.ensures)

pub returns-in-Binary : goal.returns-in-Binary
unfolding node_of width_on
returns-in-Binary c =
    rw (c.in-Binary.is, c.binary_width.ensures, c.size_at-in-Binary.ensures)
