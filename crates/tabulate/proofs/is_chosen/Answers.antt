-- `tabulate::is_chosen` meets its contract. Assumes nothing.
use borrow.Author.Tests.{eq-eqb, ne_eqb, lt-ltb, le-ltb}
use Rattle.tabulate.specs.Tabulate.{is_chosen}
use borrow.Author.Rules.{rules}
use Rattle.tabulate.proofs.is_chosen.Goals as goal

pub returns-then-n-from : goal.returns-then-n-from
unfolding is_chosen
returns-then-n-from c =
    rw (lt-ltb _ _ c.if-n-from.true)

pub returns-then-to-n : goal.returns-then-to-n
unfolding is_chosen
returns-then-to-n c =
    rw (
      le-ltb _ _ c.if-n-from.false,
      lt-ltb _ _ c.if-to-n.true,
    )

pub returns-then-every-eq0 : goal.returns-then-every-eq0
unfolding is_chosen
returns-then-every-eq0 c =
    rw (
      le-ltb _ _ c.if-n-from.false,
      le-ltb _ _ c.if-to-n.false,
      eq-eqb _ _ c.if-every-eq0.true,
    )

pub returns : goal.returns
unfolding is_chosen
returns c =
    rw (
      le-ltb _ _ c.if-n-from.false,
      le-ltb _ _ c.if-to-n.false,
      ne_eqb _ _ c.if-every-eq0.false,
    )
