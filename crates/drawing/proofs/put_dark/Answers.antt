-- `drawing::put_dark` meets its contract. Assumes nothing.
use Rattle.drawing.specs.Drawing.{dark}
use Rattle.writing.proofs.Buffer.{both}
use Rattle.writing.specs.Ascii.{ascii}
use Rattle.drawing.proofs.put_dark.Goals as goal

pub returns : goal.returns
unfolding ascii dark
returns c =
    both _ _ _ _ _ c.put_word-p.ensures
    c.put_word.ensures
