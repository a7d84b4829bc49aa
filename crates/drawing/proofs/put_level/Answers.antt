-- `drawing::put_level` meets its contract. Assumes nothing.
use Rattle.drawing.specs.Drawing.{level}
use Rattle.writing.proofs.Buffer.{both}
use Rattle.writing.specs.Ascii.{ascii}
use Rattle.drawing.proofs.put_level.Goals as goal

pub returns : goal.returns
unfolding ascii level
returns c =
    rw (← c.at-from.ensures.value, ← c.at-to.ensures.value)
    (both _ _ _ _ _ c.put_measure-p.ensures
    (both _ _ _ _ _ c.put_level_end-q.ensures
    c.put_word.ensures))
