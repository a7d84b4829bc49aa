-- `drawing::breadth` meets its contract. Assumes nothing.
use native.Mathlib.Omega.{arith}
use Rattle.drawing.specs.Drawing.{breadth}
use Rattle.drawing.proofs.breadth.Goals as goal

pub returns : goal.returns
unfolding breadth
returns c =
    omega (arith, c.across.ensures.value)
