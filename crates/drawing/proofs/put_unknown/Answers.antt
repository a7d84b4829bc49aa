-- `drawing::put_unknown` meets its contract. Assumes nothing.
use Rattle.drawing.specs.Drawing.{unknown_bit}
use Rattle.writing.proofs.Buffer.{both}
use Rattle.writing.specs.Ascii.{ascii}
use Rattle.drawing.proofs.put_unknown.Goals as goal

pub returns : goal.returns
unfolding ascii unknown_bit
returns c =
    rw (← c.at-from.ensures.value, ← c.at-to.ensures.value, ← c.middle-x.ensures)
    (both _ _ _ _ _ c.put_measure-p.ensures
    (both _ _ _ _ _ c.put_measure-q.ensures
    (both _ _ _ _ _ c.put_measure-s.ensures
    c.put_word.ensures)))
