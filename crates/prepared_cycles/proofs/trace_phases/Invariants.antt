-- `prepared_cycles::trace_phases` meets its contract. The loop: the phases that are left, from what was reached and written, end and
-- leave what all of them do from the start. Assumes nothing.
use mathlib.Core.Path.{◌≡◌}
use Prim.Native.Nat.{◌-◌, ◌≤◌}
use Rattle.plan.specs.Plan.{plan_of}
use Rattle.prepared_cycles.specs.Cycles.{row_inputs}
use Rattle.prepared_cycles.specs.Phases.{moment_of, phases_at}
use Rattle.prepared_cycles.specs.Traces.{trace_from_at}
use Rattle.prepared_cycles.proofs.Tracing.{Kept}
use Rattle.prepared_cycles.proofs.trace_phases.Given as goal

abbrev pub invariant-loop-p : goal.invariant-loop-p
invariant-loop-p l =
    (l.p ≤ l.n)
    × Kept l.n l.value l.unknown l.initial.out l.out
    × (phases_at (plan_of l.plan) (row_inputs (plan_of l.plan).inputs l.value l.unknown) (l.n - l.p) l.p (moment_of l.cells l.pending l.stood l.standing)
    ≡ phases_at (plan_of l.plan) (row_inputs (plan_of l.plan).inputs l.value l.unknown) l.n 0 (moment_of l.initial.cells l.initial.pending l.initial.stood l.initial.standing))
    × (trace_from_at (plan_of l.plan) (row_inputs (plan_of l.plan).inputs l.value l.unknown) (l.n - l.p) l.p (moment_of l.cells l.pending l.stood l.standing)
    l.out
    ≡ trace_from_at (plan_of l.plan) (row_inputs (plan_of l.plan).inputs l.value l.unknown) l.n 0 (moment_of l.initial.cells l.initial.pending l.initial.stood l.initial.standing)
    l.initial.out)
