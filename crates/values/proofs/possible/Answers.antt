-- `values::possible` meets its contract. Assumes nothing.
use Rattle.std.proofs.Common.{refl}
use Rattle.values.specs.Operators.{possible}
use Rattle.values.proofs.possible.Goals as goal

pub returns : goal.returns
unfolding possible
returns c =
    refl
