-- `workload::trace` meets its contract. The loop's invariant: the rows that are left come to what all come to. Assumes nothing.
use Prim.Native.Nat.{◌≤◌, ◌-◌}
use mathlib.Core.Path.{◌≡◌}
use Rattle.plan.specs.Plan.{plan_of}
use Rattle.workload.specs.Workload.{traced_from, rows_from}
use Rattle.workload.proofs.trace.Given as goal

abbrev pub invariant-loop-k : goal.invariant-loop-k
invariant-loop-k l =
    (l.k ≤ 32)
    × (traced_from (plan_of l.plan) l.user l.value l.unknown (32 - l.k) l.k l.rest ≡ traced_from (plan_of l.plan) l.user l.value l.unknown 32 0 l.initial.rest)
    × (rows_from (plan_of l.plan) l.user l.value l.unknown (32 - l.k) l.k l.rest l.out ≡ rows_from (plan_of l.plan) l.user l.value l.unknown 32 0 l.initial.rest l.initial.out)
