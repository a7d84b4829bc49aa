-- `drawing::put_outline` meets its contract. Assumes nothing.
use Rattle.drawing.specs.Drawing.{outline}
use Rattle.writing.proofs.Buffer.{both}
use Rattle.writing.specs.Ascii.{ascii}
use Rattle.drawing.proofs.put_outline.Goals as goal

pub returns : goal.returns
unfolding ascii outline
returns c =
    rw (← c.at-from.ensures.value, ← c.at.ensures.value, ← c.saturating_sub-to.ensures)
    (both _ _ _ _ _ c.put_box_start-p.ensures
    (both _ _ _ _ _ c.put_measure-q.ensures
    c.put_measure.ensures))
