-- `values::outside` meets its contract. Assumes nothing.
use Rattle.std.proofs.Common.{refl}
use Rattle.values.specs.Operators.{outside}
use Rattle.values.proofs.outside.Goals as goal

pub returns : goal.returns
unfolding outside
returns c =
    refl
