-- `clock_nodes::third_of` meets its contract. Assumes nothing.
use borrow.Author.Tests.{eq-eqb, ne_eqb, lt-ltb, le-ltb}
use Rattle.clock_nodes.specs.Copying.{third_of}
use Rattle.clock_nodes.proofs.third_of.Goals as goal

pub returns-then-k-eq2 : goal.returns-then-k-eq2
unfolding third_of
returns-then-k-eq2 c =
    rw (eq-eqb _ 2 c.if-k-eq2.true)

pub returns-then-k-lt20 : goal.returns-then-k-lt20
unfolding third_of
returns-then-k-lt20 c =
    rw (c.size_at.ensures, ne_eqb _ 2 c.if-k-eq2.false, lt-ltb _ 20 c.if-k-lt20.true)

pub returns : goal.returns
unfolding third_of
returns c =
    rw (c.cell_in.ensures, ne_eqb _ 2 c.if-k-eq2.false, le-ltb _ 20 c.if-k-lt20.false)
