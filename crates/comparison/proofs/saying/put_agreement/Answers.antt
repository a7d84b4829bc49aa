-- `comparison::put_agreement` meets its contract. Assumes nothing.
use borrow.Author.Tests.{eq-eqb, ne_eqb}
use Rattle.writing.specs.Ascii.{ascii}
use Rattle.writing.proofs.Buffer.{both}
use Rattle.comparison.specs.Saying.{agreement_line}
use Rattle.comparison.proofs.saying.put_agreement.Goals as goal

pub returns-then-n-eq0 : goal.returns-then-n-eq0
unfolding ascii agreement_line
returns-then-n-eq0 c =
    rw (eq-eqb _ _ c.if-n-eq0.true) c.put_word.ensures

pub returns : goal.returns
unfolding ascii agreement_line
returns c =
    rw (ne_eqb _ _ c.if-n-eq0.false) (both _ _ _ _ _ (both _ _ _ _ _ (both _ _ _ _ _
    c.put_word-p.ensures
    c.put_decimal-q.ensures)
    c.put_word-r.ensures)
    c.put_word-2.ensures)
