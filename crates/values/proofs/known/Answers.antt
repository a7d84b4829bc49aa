-- `values::known` meets its contract. Assumes nothing.
use Rattle.std.proofs.Common.{refl}
use Rattle.values.specs.Values.{known}
use Rattle.values.proofs.known.Goals as goal

pub returns : goal.returns
unfolding known
returns c =
    refl
