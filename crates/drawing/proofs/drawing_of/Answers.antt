-- `drawing::drawing_of` meets its contract. Assumes nothing.
use mathlib.Core.Path.{refl, ◌∙◌}
use native.Mathlib.Omega.{arith}
use lib.ListN.{length}
use Rattle.drawing.proofs.Laws.{min-capped}
use Rattle.drawing.specs.Drawing.{drawing_of}
use Rattle.naming.proofs.Naming.{within-80}
use Rattle.drawing.proofs.drawing_of.Goals as goal

pub overflow_cast-result-3 : goal.overflow_cast-result-3
overflow_cast-result-3 c =
    omega (arith, c.within-lanes.ensures, within-80 (length c.args.vs.now))

pub returns : goal.returns
unfolding drawing_of
returns c =
    rw (← (c.min-n.ensures ∙ min-capped 128 _), ← c.unit_of-unit.ensures, ← c.left_of-left.ensures, ← c.within-lanes.ensures) refl
