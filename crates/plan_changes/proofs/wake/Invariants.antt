-- `plan_changes::wake` meets its contract. The loop: the threads so far are woken.
use Prim.Native.Nat.{◌≤◌}
use mathlib.Core.Path.{◌≡◌}
use Rattle.masks.specs.Masks.{bits}
use Rattle.values.specs.Cells.{value_of}
use Rattle.plan.specs.Plan.{plan_of}
use Rattle.plan_changes.specs.Changes.{wake_below}
use Rattle.plan_changes.proofs.wake.Given as goal

abbrev pub invariant-loop-i : goal.invariant-loop-i
invariant-loop-i l =
    (l.i ≤ l.n) × (l.n ≤ 8)
    × (bits l.marks ≡ wake_below (plan_of l.plan) l.places l.v (value_of l.old) (value_of l.new) l.i (bits l.woken))
