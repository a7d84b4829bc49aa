-- `comparison::saying::put_place` meets its contract. Assumes nothing.
use Rattle.writing.specs.Ascii.{ascii}
use Rattle.writing.proofs.Buffer.{both}
use Rattle.comparison.specs.Saying.{place_line}
use Rattle.comparison.proofs.saying.put_place.Goals as goal

pub returns : goal.returns
unfolding ascii place_line
returns c =
    both _ _ _ _ _ (both _ _ _ _ _ (both _ _ _ _ _ (both _ _ _ _ _
    c.put_word-p.ensures
    c.put_decimal-q.ensures)
    c.put_word-r.ensures)
    c.put_order-s.ensures)
    c.put_word.ensures
