-- `drawing::put_rise` meets its contract. Assumes nothing.
use Rattle.drawing.specs.Drawing.{rise}
use Rattle.writing.proofs.Buffer.{both}
use Rattle.writing.specs.Ascii.{ascii}
use Rattle.drawing.proofs.put_rise.Goals as goal

pub returns : goal.returns
unfolding ascii rise
returns c =
    rw (← c.rise_at-x.ensures, ← c.depth-y.ensures)
    (both _ _ _ _ _ c.put_measure-p.ensures
    (both _ _ _ _ _ c.put_measure-q.ensures
    (both _ _ _ _ _ c.put_word-s.ensures
    (both _ _ _ _ _ c.put_label-e.ensures
    c.put_word.ensures))))
