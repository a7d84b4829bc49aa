-- `drawing::put_range` meets its contract. Assumes nothing.
use mathlib.Core.Path.{sym}
use borrow.Author.Tests.{le-ltb, lt-ltb}
use Rattle.drawing.specs.Drawing.{range}
use Rattle.writing.proofs.Buffer.{both, puts-nil}
use Rattle.writing.specs.Ascii.{ascii}
use Rattle.drawing.proofs.put_range.Goals as goal

pub returns-then-width-lt2 : goal.returns-then-width-lt2
unfolding range
returns-then-width-lt2 c =
    rw (lt-ltb _ _ c.if-width-lt2.true) (sym (puts-nil _))

pub returns : goal.returns
unfolding ascii range
returns c =
    rw (le-ltb _ _ c.if-width-lt2.false)
    (both _ _ _ _ _ c.put_measure-p.ensures
    c.put_word.ensures)
