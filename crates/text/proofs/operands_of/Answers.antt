-- `text::operands_of` meets its contract. Assumes nothing.
use borrow.Author.Tests.{ne_eqb}
use Rattle.text.specs.Printing.{operands_of}
use Rattle.text.proofs.operands_of.Goals as goal

pub returns-in-17 : goal.returns-in-17
unfolding operands_of
returns-in-17 c =
    rw c.in-17.is

pub returns-in-49 : goal.returns-in-49
unfolding operands_of
returns-in-49 c =
    rw c.in-49.is

pub returns-in-113 : goal.returns-in-113
unfolding operands_of
returns-in-113 c =
    rw c.in-113.is

pub returns-in-128 : goal.returns-in-128
unfolding operands_of
returns-in-128 c =
    rw c.in-128.is c.argument_count.ensures

pub returns-in_default : goal.returns-in_default
unfolding operands_of
returns-in_default c =
    let r = c.in_default.in_default-own.rest in
    simp (ne_eqb _ _ r.0.0.0.1, ne_eqb _ _ r.0.0.1, ne_eqb _ _ r.0.1, ne_eqb _ _ r.1)
