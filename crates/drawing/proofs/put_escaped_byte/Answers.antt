-- `drawing::put_escaped_byte` meets its contract. Assumes nothing.
use Rattle.drawing.proofs.Laws.{escaped-and, escaped-high, escaped-less, escaped-low, escaped-plain}
use Rattle.writing.specs.Ascii.{ascii}
use Rattle.drawing.proofs.put_escaped_byte.Goals as goal

pub returns-then-b-lt32 : goal.returns-then-b-lt32
unfolding ascii
returns-then-b-lt32 c =
    rw (escaped-low _ c.if-b-lt32.true) c.put_word.ensures

pub returns-then-b-gt126 : goal.returns-then-b-gt126
unfolding ascii
returns-then-b-gt126 c =
    rw (escaped-high _ c.if-b-lt32.false c.if-b-gt126.true) c.put_word-then-b-gt126.ensures

pub returns-then-b-eq38 : goal.returns-then-b-eq38
unfolding ascii
returns-then-b-eq38 c =
    rw (escaped-and _ c.if-b-lt32.false c.if-b-gt126.false c.if-b-eq38.true) c.put_word-then-b-eq38.ensures

pub returns-then-b-eq60 : goal.returns-then-b-eq60
unfolding ascii
returns-then-b-eq60 c =
    rw (escaped-less _ c.if-b-lt32.false c.if-b-gt126.false c.if-b-eq38.false c.if-b-eq60.true) c.put_word-then-b-eq60.ensures

pub returns : goal.returns
unfolding ascii
returns c =
    rw (escaped-plain _ c.if-b-lt32.false c.if-b-gt126.false c.if-b-eq38.false c.if-b-eq60.false) c.put_byte.ensures
