-- `counted::reads_changed` meets its contract. The loop: of the variables so far none is read and has changed. Assumes nothing.
use Prim.Native.Nat.{◌≤◌}
use mathlib.Core.Path.{◌≡◌}
use mathlib.Core.Bool.{false}
use Rattle.plan.specs.Plan.{plan_of}
use Rattle.counted.specs.Counted.{reads_changed}
use Rattle.counted.proofs.reads_changed.Given as goal

abbrev pub invariant-loop-v : goal.invariant-loop-v
invariant-loop-v l =
    (l.v ≤ 80) × (reads_changed (plan_of l.plan) l.a l.b l.k l.v ≡ false)
