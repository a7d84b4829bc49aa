-- `hextext::failed` meets its contract. Assumes nothing.
use mathlib.Core.Path.{refl}
use Rattle.hextext.specs.Scanning.{failed}
use Rattle.hextext.proofs.failed.Goals as goal

pub returns : goal.returns
unfolding failed
returns c =
    refl
