-- `values::between` meets its contract. Assumes nothing.
use Rattle.std.proofs.Common.{refl}
use Rattle.values.specs.Operators.{between}
use Rattle.values.proofs.between.Goals as goal

pub returns : goal.returns
unfolding between
returns c =
    refl
