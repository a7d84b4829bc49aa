-- `drawing::unit_of` meets its contract. Assumes nothing.
use mathlib.Core.Path.{◌∙◌, ap}
use Rattle.drawing.proofs.Laws.{min-capped, max-longer}
use Rattle.drawing.specs.Drawing.{capped, unit_of}
use Rattle.drawing.proofs.unit_of.Goals as goal

pub returns : goal.returns
unfolding unit_of
returns c =
    let e = c.min-n.ensures ∙ min-capped 40 _ ∙ ap (λ n. capped 40 n) c.largest_value.ensures in
    rw (← e) (c.max.ensures ∙ max-longer 20 _)
