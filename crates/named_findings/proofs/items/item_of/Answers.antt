-- `named_findings::items::item_of` meets its contract, number by number. Assumes nothing.
use borrow.Author.Rules.{rules}
use borrow.Author.Tests.{eq-eqb, ne_eqb, lt-ltb, le-ltb}
use mathlib.Core.Path.{ap}
use Rattle.verilog_origins.specs.declared.Item.TheVariants.{Variable}
use Rattle.named_findings.specs.Items.{item_of}
use Rattle.named_findings.proofs.items.item_of.Goals as goal

pub returns-then-w-lt15 : goal.returns-then-w-lt15
unfolding item_of
returns-then-w-lt15 c =
    rw (lt-ltb _ _ c.if-w-lt15.true) (ap Variable c.variable.ensures)

pub returns-then-w : goal.returns-then-w
unfolding item_of
returns-then-w c =
    rw (le-ltb _ _ c.if-w-lt15.false, c.if-w.true)

pub returns-then-w-eq15 : goal.returns-then-w-eq15
unfolding item_of
returns-then-w-eq15 c =
    rw (le-ltb _ _ c.if-w-lt15.false, c.if-w.false, eq-eqb _ _ c.if-w-eq15.true)

pub returns-then-w-lt20 : goal.returns-then-w-lt20
unfolding item_of
returns-then-w-lt20 c =
    rw (
      le-ltb _ _ c.if-w-lt15.false,
      c.if-w.false,
      ne_eqb _ _ c.if-w-eq15.false,
      lt-ltb _ _ c.if-w-lt20.true,
    )

pub returns : goal.returns
unfolding item_of
returns c =
    rw (
      le-ltb _ _ c.if-w-lt15.false,
      c.if-w.false,
      ne_eqb _ _ c.if-w-eq15.false,
      le-ltb _ _ c.if-w-lt20.false,
    )
