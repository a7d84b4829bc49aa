-- `drawing::across` meets its contract. Assumes nothing.
use mathlib.Core.Path.{◌∙◌, ap}
use Rattle.drawing.specs.Drawing.{across, at}
use Rattle.drawing.proofs.across.Goals as goal

pub returns : goal.returns
unfolding across
returns c =
    record { value = c.at.ensures.value ∙ ap (λ h. at c.args.d h) c.halves.ensures.value; upper_bound = c.at.ensures.upper_bound }
