-- `drawing::put_level_end` meets its contract. Assumes nothing.
use borrow.Author.Tests.{eq-eqb, ne_eqb}
use Rattle.drawing.specs.Drawing.{level_word}
use Rattle.writing.specs.Ascii.{ascii}
use Rattle.drawing.proofs.put_level_end.Goals as goal

pub returns-then-n-eq0 : goal.returns-then-n-eq0
unfolding ascii level_word
returns-then-n-eq0 c =
    rw (eq-eqb _ _ c.if-n-eq0.true) c.put_measure.ensures

pub returns : goal.returns
unfolding ascii level_word
returns c =
    rw (ne_eqb _ _ c.if-n-eq0.false) c.put_measure-2.ensures
