-- `drawing::middle` meets its contract. Assumes nothing.
use native.Mathlib.Omega.{arith}
use Rattle.drawing.specs.Drawing.{middle}
use Rattle.drawing.proofs.middle.Goals as goal

pub returns : goal.returns
unfolding middle
returns c =
    omega (arith, c.at.ensures.value, c.at-2.ensures.value)
