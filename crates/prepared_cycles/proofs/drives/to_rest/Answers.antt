-- `prepared_cycles::drives::to_rest` meets its contract, by way. Assumes nothing.
use mathlib.Core.Path.{◌∙◌}
use Rattle.prepared_cycles.proofs.Driving.{rest-drawn, rest_plain}
use Rattle.prepared_cycles.proofs.drives.to_rest.Goals as goal

pub returns-then-drawn : goal.returns-then-drawn
returns-then-drawn c =
    c.by_draw.ensures ∙ rest-drawn _ _ _ c.if-drawn.true

pub returns : goal.returns
returns c =
    c.plainly.ensures ∙ rest_plain _ _ _ c.if-drawn.false
