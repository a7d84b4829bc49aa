-- `drawing::rise_at` meets its contract. Assumes nothing.
use native.Mathlib.Omega.{arith}
use Rattle.drawing.specs.Drawing.{rise_at}
use Rattle.drawing.proofs.rise_at.Goals as goal

pub returns : goal.returns
unfolding rise_at
returns c =
    omega (arith, c.at.ensures.value)
