-- `comparison::saying::put_order` meets its contract. Assumes nothing.
use borrow.Author.Tests.{eq-eqb, ne_eqb}
use Rattle.writing.specs.Ascii.{ascii}
use Rattle.writing.proofs.Buffer.{both}
use Rattle.comparison.specs.Saying.{by_order}
use Rattle.comparison.proofs.saying.put_order.Goals as goal

pub returns-then-order-eq0 : goal.returns-then-order-eq0
unfolding ascii by_order
returns-then-order-eq0 c =
    rw (eq-eqb _ _ c.if-order-eq0.true) c.put_word.ensures

pub returns : goal.returns
unfolding ascii by_order
returns c =
    rw (ne_eqb _ _ c.if-order-eq0.false) (both _ _ _ _ _ c.put_word-p.ensures c.put_decimal.ensures)
