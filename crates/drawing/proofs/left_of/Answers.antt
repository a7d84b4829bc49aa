-- `drawing::left_of` meets its contract. Assumes nothing.
use mathlib.Core.Path.{◌∙◌, ap}
use native.Mathlib.Omega.{arith}
use Rattle.drawing.proofs.Laws.{min-capped}
use Rattle.drawing.specs.Drawing.{capped, left_of}
use Rattle.drawing.proofs.left_of.Goals as goal

pub returns : goal.returns
unfolding left_of
returns c =
    let e = c.min-n.ensures ∙ min-capped 40 _ ∙ ap (λ n. capped 40 n) c.largest_name.ensures in
    omega (arith, e)
