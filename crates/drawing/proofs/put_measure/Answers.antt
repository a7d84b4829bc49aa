-- `drawing::put_measure` meets its contract. Assumes nothing.
use Rattle.drawing.specs.Drawing.{measure}
use Rattle.writing.proofs.Buffer.{both}
use Rattle.drawing.proofs.put_measure.Goals as goal

pub returns : goal.returns
unfolding measure
returns c =
    both _ _ _ _ _ c.put_word-p.ensures
    c.put_decimal.ensures
