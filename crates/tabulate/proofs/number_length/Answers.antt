-- `tabulate::number_length` meets its contract. Assumes nothing.
use mathlib.Core.Path.{sym, ◌∙◌}
use borrow.Author.Tests.{eq-eqb, ne_eqb}
use Rattle.binary_text.proofs.BinaryText.{length-bits}
use Rattle.tabulate.specs.Tabulate.{numbered}
use Rattle.tabulate.proofs.Tabulate.{length-figures}
use borrow.Author.Rules.{rules}
use Rattle.tabulate.proofs.number_length.Goals as goal

pub returns-then-base-eq16 : goal.returns-then-base-eq16
unfolding numbered
returns-then-base-eq16 c =
    rw (eq-eqb _ _ c.if-base-eq16.true) (sym (length-figures _ _))

pub returns-then-base-eq2 : goal.returns-then-base-eq2
unfolding numbered
returns-then-base-eq2 c =
    rw (ne_eqb _ _ c.if-base-eq16.false, eq-eqb _ _ c.if-base-eq2.true) (sym (length-bits _ _ _))

pub returns : goal.returns
unfolding numbered
returns c =
    rw (ne_eqb _ _ c.if-base-eq16.false, ne_eqb _ _ c.if-base-eq2.false) c.digit_count.ensures
