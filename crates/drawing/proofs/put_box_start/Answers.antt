-- `drawing::put_box_start` meets its contract. Assumes nothing.
use Rattle.drawing.specs.Drawing.{box_word}
use Rattle.writing.specs.Ascii.{ascii}
use Rattle.drawing.proofs.put_box_start.Goals as goal

pub returns-then-known : goal.returns-then-known
unfolding ascii box_word
returns-then-known c =
    rw c.if-known.true c.put_measure.ensures

pub returns : goal.returns
unfolding ascii box_word
returns c =
    rw c.if-known.false c.put_measure-2.ensures
