-- `drawing::put_light` meets its contract. Assumes nothing.
use Rattle.drawing.specs.Drawing.{light}
use Rattle.writing.proofs.Buffer.{both}
use Rattle.writing.specs.Ascii.{ascii}
use Rattle.drawing.proofs.put_light.Goals as goal

pub returns : goal.returns
unfolding ascii light
returns c =
    both _ _ _ _ _ c.put_word-p.ensures
    (both _ _ _ _ _ c.put_word-q.ensures
    (both _ _ _ _ _ c.put_word-s.ensures
    c.put_word.ensures))
