-- The number of functions, at most 8. Assumes nothing.
use mathlib.Core.Path.{◌∙◌}
use Rattle.bodies.proofs.Laying.{function_count-min}
use Rattle.bodies.proofs.function_count.Goals as goal

pub returns : goal.returns
returns c =
    c.min.ensures ∙ function_count-min _
