-- `drawing::last_cycle` meets its contract. Assumes nothing.
use native.Mathlib.Omega.{arith}
use Rattle.drawing.specs.Drawing.{last_cycle}
use Rattle.drawing.proofs.last_cycle.Goals as goal

pub returns : goal.returns
unfolding last_cycle
returns c =
    omega (arith, c.saturating_sub.ensures)
