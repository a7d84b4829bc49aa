-- `drawing::put_text_start` meets its contract. Assumes nothing.
use Rattle.drawing.specs.Drawing.{text_word}
use Rattle.writing.specs.Ascii.{ascii}
use Rattle.drawing.proofs.put_text_start.Goals as goal

pub returns-then-known : goal.returns-then-known
unfolding ascii text_word
returns-then-known c =
    rw c.if-known.true c.put_measure.ensures

pub returns : goal.returns
unfolding ascii text_word
returns c =
    rw c.if-known.false c.put_measure-2.ensures
