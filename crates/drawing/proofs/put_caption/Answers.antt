-- `drawing::put_caption` meets its contract. Assumes nothing.
use Rattle.drawing.specs.Drawing.{caption}
use Rattle.writing.proofs.Buffer.{both}
use Rattle.writing.specs.Ascii.{ascii}
use Rattle.drawing.proofs.put_caption.Goals as goal

pub returns : goal.returns
unfolding ascii caption
returns c =
    rw (← c.last_cycle-last.ensures)
    (both _ _ _ _ _ c.put_word-p.ensures
    (both _ _ _ _ _ c.put_escaped-q.ensures
    (both _ _ _ _ _ c.put_measure-s.ensures
    (both _ _ _ _ _ c.put_measure-e.ensures
    c.put_word.ensures))))
