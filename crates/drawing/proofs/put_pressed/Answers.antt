-- `drawing::put_pressed` meets its contract. Assumes nothing.
use mathlib.Core.Path.{sym}
use borrow.Author.Tests.{le-ltb, lt-ltb}
use Rattle.drawing.proofs.Laws.{room-is}
use Rattle.drawing.specs.Drawing.{pressed}
use Rattle.writing.proofs.Buffer.{both, puts-nil}
use Rattle.writing.specs.Ascii.{ascii}
use Rattle.drawing.proofs.put_pressed.Goals as goal

pub returns-then-room-n : goal.returns-then-room-n
unfolding ascii pressed
returns-then-room-n c =
    let r = room-is _ _ _ _ _ _ _ c.at.ensures.value c.at-2.ensures.value c.saturating_sub.ensures c.saturating_sub-room.ensures in
    rw (← r, lt-ltb _ _ c.if-room-n.true)
    (both _ _ _ _ _ c.put_measure-p.ensures
    c.put_word.ensures)

pub returns : goal.returns
unfolding pressed
returns c =
    let r = room-is _ _ _ _ _ _ _ c.at.ensures.value c.at-2.ensures.value c.saturating_sub.ensures c.saturating_sub-room.ensures in
    rw (← r, le-ltb _ _ c.if-room-n.false) (sym (puts-nil _))
