-- `clock_check::judged_rows::lands` meets its contract, by the kind of node. Assumes nothing.
use borrow.Author.Tests.{eq-eqb, ne_eqb}
use Rattle.nodes.specs.Cells.{node_of, lands_at}
use Rattle.clock_check.proofs.judged_rows.lands.Goals as goal

pub returns-then-width-eq8 : goal.returns-then-width-eq8
unfolding node_of lands_at
returns-then-width-eq8 c =
    rw (c.in-Constant.is, eq-eqb _ _ c.if-width-eq8.true) c.waits_at.ensures

pub returns-else-width-eq8 : goal.returns-else-width-eq8
unfolding node_of lands_at
returns-else-width-eq8 c =
    rw (c.in-Constant.is, ne_eqb _ _ c.if-width-eq8.false)

pub returns-then-marked : goal.returns-then-marked
unfolding node_of lands_at
returns-then-marked c =
    rw (c.in-Branch.is, ← c.marked.ensures, c.if-marked.true)
    c.marked-then-marked.ensures

pub returns-else-marked : goal.returns-else-marked
unfolding node_of lands_at
returns-else-marked c =
    rw (c.in-Branch.is, ← c.marked.ensures, c.if-marked.false)
