-- `clock_check::judged_rows::land` meets its contract. The loop: the nodes so far are marked. Assumes nothing.
use mathlib.Core.Path.{◌≡◌}
use Prim.Native.Nat.{◌≤◌}
use Rattle.plan.specs.Plan.{plan_of}
use Rattle.clock_check.specs.Judging.{wait_of, Rest}
use Rattle.clock_check.proofs.Filling.{lands_over}
use Rattle.clock_check.proofs.judged_rows.land.Given as goal

abbrev pub invariant-loop-n : goal.invariant-loop-n
invariant-loop-n l =
    (l.n ≤ l.used) × Rest l.nodes l.used × (l.marks ≡ lands_over (wait_of (plan_of l.plan) l.i) l.nodes l.n)
