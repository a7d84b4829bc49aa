-- `values::marked` meets its contract. Assumes nothing.
use Rattle.std.proofs.Common.{refl}
use Rattle.values.specs.Operators.{marked}
use Rattle.values.proofs.marked.Goals as goal

pub returns : goal.returns
unfolding marked
returns c =
    refl
