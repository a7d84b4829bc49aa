-- `values::holds` meets its contract. Assumes nothing.
use Rattle.std.proofs.Common.{refl}
use Rattle.values.specs.Values.{holds}
use Rattle.values.proofs.holds.Goals as goal

pub returns : goal.returns
unfolding holds
returns c =
    refl
