-- `hextext::first` meets its contract. Assumes nothing.
use mathlib.Core.Path.{refl}
use Rattle.hextext.specs.Scanning.{first}
use Rattle.hextext.proofs.first.Goals as goal

pub returns : goal.returns
unfolding first
returns c =
    refl
