-- `clock_check::judged_nodes::node_fits` meets its contract, by the kind of node. Assumes nothing.
use Rattle.nodes.specs.Cells.{node_of, fits_at}
use Rattle.clock_check.proofs.judged_nodes.node_fits.Goals as goal

pub returns-in-Variable : goal.returns-in-Variable
unfolding node_of fits_at
returns-in-Variable c =
    rw c.in-Variable.is

pub returns-in-Constant : goal.returns-in-Constant
unfolding node_of fits_at
returns-in-Constant c =
    rw c.in-Constant.is c.constant_fits.ensures

pub returns-in-Blank : goal.returns-in-Blank
unfolding node_of fits_at
returns-in-Blank c =
    rw c.in-Blank.is c.is_width.ensures

pub returns-in-Unary : goal.returns-in-Unary
unfolding node_of fits_at
returns-in-Unary c =
    rw c.in-Unary.is

pub returns-in-Binary : goal.returns-in-Binary
unfolding node_of fits_at
returns-in-Binary c =
    rw c.in-Binary.is c.arms_fit.ensures
