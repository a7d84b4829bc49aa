-- `hextext::spotted` meets its contract. Assumes nothing.
use mathlib.Core.Path.{refl}
use Rattle.hextext.specs.Decoding.{spotted}
use Rattle.hextext.proofs.spotted.Goals as goal

pub returns : goal.returns
unfolding spotted
returns c =
    refl
