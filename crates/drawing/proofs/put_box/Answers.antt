-- `drawing::put_box` meets its contract. Assumes nothing.
use Rattle.drawing.specs.Drawing.{box}
use Rattle.writing.proofs.Buffer.{both}
use Rattle.writing.specs.Ascii.{ascii}
use Rattle.drawing.proofs.put_box.Goals as goal

pub returns : goal.returns
unfolding ascii box
returns c =
    rw (← c.is_known-known.ensures, ← c.shown_length-n.ensures)
    (both _ _ _ _ _ c.put_word-p.ensures
    (both _ _ _ _ _ c.put_shown-q.ensures
    (both _ _ _ _ _ c.put_outline-s.ensures
    (both _ _ _ _ _ c.put_inscription-e.ensures
    (both _ _ _ _ _ c.put_shown-f.ensures
    c.put_word.ensures)))))
