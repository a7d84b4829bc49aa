-- `driving::time_of` meets its contract. Assumes nothing.
use mathlib.Core.Path.{refl}
use Rattle.driving.specs.Endings.{time_of}
use Rattle.driving.proofs.time_of.Goals as goal

pub returns : goal.returns
unfolding time_of
returns c =
    refl
