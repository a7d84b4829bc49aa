-- `drawing::put_inscription` meets its contract. Assumes nothing.
use Rattle.drawing.specs.Drawing.{inscription}
use Rattle.writing.proofs.Buffer.{both}
use Rattle.writing.specs.Ascii.{ascii}
use Rattle.drawing.proofs.put_inscription.Goals as goal

pub returns : goal.returns
unfolding ascii inscription
returns c =
    rw (← c.middle-x.ensures)
    (both _ _ _ _ _ c.put_text_start-p.ensures
    (both _ _ _ _ _ c.put_word-q.ensures
    (both _ _ _ _ _ c.put_pressed-s.ensures
    c.put_word.ensures)))
