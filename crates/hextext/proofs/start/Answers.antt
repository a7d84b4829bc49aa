-- `hextext::start` meets its contract. Assumes nothing.
use mathlib.Core.Path.{refl}
use Rattle.hextext.specs.Scanning.{start}
use Rattle.hextext.proofs.start.Goals as goal

pub returns : goal.returns
unfolding start
returns c =
    refl
