-- `rules::in_if` meets its contract. Assumes nothing.
use mathlib.Core.Path.{refl}
use Rattle.rules.specs.Walking.{in_if}
use Rattle.rules.proofs.in_if.Goals as goal

pub returns : goal.returns
unfolding in_if
returns c =
    refl
