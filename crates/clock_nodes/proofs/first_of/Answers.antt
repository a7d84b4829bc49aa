-- `clock_nodes::first_of` meets its contract. Assumes nothing.
use borrow.Author.Tests.{eq-eqb, ne_eqb}
use Rattle.clock_nodes.specs.Copying.{first_of}
use Rattle.clock_nodes.proofs.first_of.Goals as goal

pub returns-then-k-eq0 : goal.returns-then-k-eq0
unfolding first_of
returns-then-k-eq0 c =
    rw (eq-eqb _ 0 c.if-k-eq0.true)

pub returns-else-k-eq0 : goal.returns-else-k-eq0
unfolding first_of
returns-else-k-eq0 c =
    rw (c.cell_in.ensures, ne_eqb _ 0 c.if-k-eq0.false)
