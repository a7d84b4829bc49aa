-- `drawing::put_frame` meets its contract. Assumes nothing.
use Rattle.drawing.specs.Drawing.{frame}
use Rattle.writing.proofs.Buffer.{both}
use Rattle.writing.specs.Ascii.{ascii}
use Rattle.drawing.proofs.put_frame.Goals as goal

pub returns : goal.returns
unfolding ascii frame
returns c =
    rw (← c.breadth-x.ensures, ← c.depth-y.ensures)
    (both _ _ _ _ _ c.put_measure-p.ensures
    (both _ _ _ _ _ c.put_measure-q.ensures
    (both _ _ _ _ _ c.put_measure-s.ensures
    (both _ _ _ _ _ c.put_measure-e.ensures
    c.put_word.ensures))))
