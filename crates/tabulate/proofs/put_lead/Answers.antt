-- `tabulate::put_lead` meets its contract. Assumes nothing.
use mathlib.Core.Path.{sym}
use borrow.Author.Tests.{eq-eqb, ne_eqb}
use Rattle.writing.proofs.Buffer.{puts-nil}
use Rattle.tabulate.specs.Tabulate.{lead}
use borrow.Author.Rules.{rules}
use Rattle.tabulate.proofs.put_lead.Goals as goal

pub returns-then-base-eq2 : goal.returns-then-base-eq2
unfolding lead
returns-then-base-eq2 c =
    rw (eq-eqb _ _ c.if-base-eq2.true) (sym (puts-nil _))

pub returns : goal.returns
unfolding lead
returns c =
    rw (ne_eqb _ _ c.if-base-eq2.false) c.put_byte.ensures
