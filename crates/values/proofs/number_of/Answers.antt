-- `values::number_of` meets its contract.
use Rattle.std.proofs.Common.{refl}
use Rattle.values.specs.Planes.{number_of}
use Rattle.values.proofs.number_of.Goals as goal

pub returns : goal.returns
unfolding number_of
returns c =
    refl
