-- `tabulate::put_number` meets its contract. Assumes nothing.
use borrow.Author.Tests.{eq-eqb, ne_eqb}
use Rattle.tabulate.specs.Tabulate.{numbered}
use borrow.Author.Rules.{rules}
use Rattle.tabulate.proofs.put_number.Goals as goal

pub returns-then-base-eq16 : goal.returns-then-base-eq16
unfolding numbered
returns-then-base-eq16 c =
    rw (eq-eqb _ _ c.if-base-eq16.true) c.put_figures.ensures

pub returns-then-base-eq2 : goal.returns-then-base-eq2
unfolding numbered
returns-then-base-eq2 c =
    rw (ne_eqb _ _ c.if-base-eq16.false, eq-eqb _ _ c.if-base-eq2.true) c.put_bits.ensures

pub returns : goal.returns
unfolding numbered
returns c =
    rw (ne_eqb _ _ c.if-base-eq16.false, ne_eqb _ _ c.if-base-eq2.false) c.put_decimal.ensures
