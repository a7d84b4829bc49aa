-- `drawing::put_foot` meets its contract. Assumes nothing.
use Rattle.drawing.specs.Drawing.{foot}
use Rattle.writing.specs.Ascii.{ascii}
use Rattle.drawing.proofs.put_foot.Goals as goal

pub returns : goal.returns
unfolding ascii foot
returns c =
    c.put_word.ensures
