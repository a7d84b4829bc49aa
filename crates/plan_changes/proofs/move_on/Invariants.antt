-- `plan_changes::move_on` meets its contract. The loop: the threads so far have gone on.
use Prim.Native.Nat.{◌≤◌}
use mathlib.Core.Path.{◌≡◌}
use Rattle.masks.specs.Masks.{bits}
use Rattle.plan.specs.Plan.{plan_of}
use Rattle.plan_changes.specs.Scene.{stand}
use Rattle.plan_changes.specs.Changes.{move_below}
use Rattle.plan_changes.proofs.move_on.Given as goal

abbrev pub invariant-loop-i : goal.invariant-loop-i
invariant-loop-i l =
    (l.i ≤ l.n) × (l.n ≤ 8)
    × (stand l.places (bits l.marks) ≡ move_below (plan_of l.plan) (bits l.woken) l.i (stand l.initial.places (bits l.ready)))
