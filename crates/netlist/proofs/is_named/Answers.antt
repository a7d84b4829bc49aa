-- `netlist::is_named` meets its contract. Assumes nothing.
use borrow.Author.Tests.{not-true, not-false}
use Rattle.netlist.proofs.Uses.{named_past, named-not, named_by}
use borrow.Author.Rules.{rules}
use Rattle.netlist.proofs.is_named.Goals as goal

pub returns-then-n-ge4096 : goal.returns-then-n-ge4096
returns-then-n-ge4096 c =
    named_past _ _ _ c.if-n-ge4096.true

pub returns-then-not-is_operator : goal.returns-then-not-is_operator
returns-then-not-is_operator c =
    named-not _ _ _ c.cell_at-cell.ensures c.is_operator.ensures (c.if-not-is_operator.true)

pub returns : goal.returns
returns c =
    named_by _ _ _ c.cell_at-cell.ensures c.is_operator.ensures (c.if-not-is_operator.false)
