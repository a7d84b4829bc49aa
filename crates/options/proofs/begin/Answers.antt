-- `options::begin` meets its contract. Assumes nothing.
use mathlib.Core.Path.{refl}
use Rattle.options.specs.Options.{nothing}
use Rattle.options.proofs.begin.Goals as goal

pub returns : goal.returns
unfolding nothing
returns c =
    refl
