-- `clock_nodes::second_of` meets its contract. Assumes nothing.
use borrow.Author.Tests.{eq-eqb, ne_eqb}
use Rattle.clock_nodes.specs.Copying.{second_of}
use Rattle.clock_nodes.proofs.second_of.Goals as goal

pub returns-then-k-eq1 : goal.returns-then-k-eq1
unfolding second_of
returns-then-k-eq1 c =
    rw (eq-eqb _ 1 c.if-k-eq1.true)

pub returns : goal.returns
unfolding second_of
returns c =
    rw (c.cell_in.ensures, ne_eqb _ 1 c.if-k-eq1.false)
