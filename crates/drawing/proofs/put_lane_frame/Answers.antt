-- `drawing::put_lane_frame` meets its contract. Assumes nothing.
use native.Mathlib.Omega.{arith}
use Rattle.drawing.specs.Drawing.{lane_frame}
use Rattle.naming.proofs.Naming.{within-80}
use Rattle.writing.proofs.Buffer.{both}
use Rattle.writing.specs.Ascii.{ascii}
use Rattle.drawing.proofs.put_lane_frame.Goals as goal

pub overflow_mul-y : goal.overflow_mul-y
overflow_mul-y c =
    omega (arith, c.within.ensures, within-80 c.args.i)

pub overflow_add-y : goal.overflow_add-y
overflow_add-y c =
    omega (arith, c.within.ensures, within-80 c.args.i)

pub returns : goal.returns
unfolding ascii lane_frame
returns c =
    rw (← c.within.ensures, ← c.across.ensures.value, ← c.saturating_sub-x.ensures)
    (both _ _ _ _ _ c.put_measure-p.ensures
    (both _ _ _ _ _ c.put_measure-q.ensures
    (both _ _ _ _ _ c.put_measure-s.ensures
    (both _ _ _ _ _ c.put_measure-e.ensures
    c.put_word.ensures))))
