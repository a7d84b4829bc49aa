-- `clock_steps::at_most` meets its contract. Assumes nothing.
use mathlib.Core.Path.{◌∙◌}
use native.Mathlib.Omega.{arith}
use Rattle.std.proofs.Math.Nat.{min-le_right}
use Rattle.clock_steps.proofs.Turns.{most-min}
use Rattle.clock_steps.proofs.at_most.Goals as goal

pub returns : goal.returns
returns c =
    let a = c.args in
    record { value = c.min.ensures ∙ most-min a.most a.n; upper_bound = omega (arith, c.min.ensures, min-le_right a.n a.most) }
