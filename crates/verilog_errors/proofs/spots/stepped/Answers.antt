-- `verilog_errors::spots::stepped` meets its contract. Assumes nothing.
use borrow.Author.Rules.{rules}
use borrow.Author.Tests.{eq-eqb, ne_eqb}
use Rattle.verilog_errors.specs.Spots.{stepped}
use Rattle.verilog_errors.proofs.spots.stepped.Goals as goal

pub returns-then-b-eq10 : goal.returns-then-b-eq10
unfolding stepped
returns-then-b-eq10 c =
    rw (eq-eqb _ _ c.if-b-eq10.true, c.counted.ensures)

pub returns : goal.returns
unfolding stepped
returns c =
    rw (ne_eqb _ _ c.if-b-eq10.false, c.counted-2.ensures)
