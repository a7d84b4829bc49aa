-- `workload::to_rest` meets its contract. The loop's invariant: the commits that are left come to what all come to. Assumes nothing.
use mathlib.Core.Path.{◌≡◌}
use Prim.Native.Nat.{◌-◌, ◌≤◌}
use Rattle.plan.specs.Plan.{plan_of}
use Rattle.workload.specs.Workload.{to_rest}
use Rattle.workload.proofs.to_rest.Given as goal

abbrev pub invariant-loop : goal.invariant-loop
invariant-loop l =
    (l.counter ≤ 65535)
    × (to_rest (plan_of l.plan) l.user (65535 - l.counter) l.old l.e ≡ to_rest (plan_of l.plan) l.user 65535 l.initial.old l.initial.e)
