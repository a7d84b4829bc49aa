-- `clock_steps::row_in` meets its contract. Assumes nothing.
use mathlib.Core.Path.{refl}
use native.Mathlib.Omega.{arith}
use Rattle.clock_steps.specs.Taking.{row_in}
use Rattle.clock_steps.proofs.row_in.Goals as goal

pub returns : goal.returns
unfolding row_in
returns c =
    record { value = refl; upper_bound = omega arith }
