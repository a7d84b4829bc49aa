-- `values::marks_of` meets its contract.
use Rattle.std.proofs.Common.{refl}
use Rattle.values.specs.Planes.{marks_of}
use Rattle.values.proofs.marks_of.Goals as goal

pub returns : goal.returns
unfolding marks_of
returns c =
    refl
