-- `prepared_cycles::drive_phases` meets its contract. The loop: the instants that are left, from what was reached and written, end and
-- leave what all of them do from the start. Assumes nothing.
use mathlib.Core.Path.{◌≡◌}
use Prim.Native.Nat.{◌-◌, ◌≤◌}
use Rattle.plan.specs.Plan.{plan_of}
use Rattle.prepared_cycles.specs.Cycles.{row_inputs}
use Rattle.prepared_cycles.specs.Drives.{going_of, on_plan, drives, rows}
use Rattle.prepared_cycles.proofs.Tracing.{Kept}
use Rattle.prepared_cycles.proofs.drive_phases.Given as goal

abbrev pub invariant-loop-p : goal.invariant-loop-p
invariant-loop-p l =
    (l.p ≤ l.n)
    × Kept l.n l.value l.unknown l.initial.out l.out
    × (drives (on_plan (plan_of l.plan)) l.drawn (row_inputs (plan_of l.plan).inputs l.value l.unknown) (l.n - l.p) l.p (going_of l.cells l.pending l.stood l.went)
    ≡ drives (on_plan (plan_of l.plan)) l.drawn (row_inputs (plan_of l.plan).inputs l.value l.unknown) l.n 0 (going_of l.initial.cells l.initial.pending l.initial.stood l.initial.went))
    × (rows (on_plan (plan_of l.plan)) l.drawn (row_inputs (plan_of l.plan).inputs l.value l.unknown) (l.n - l.p) l.p (going_of l.cells l.pending l.stood l.went) l.out
    ≡ rows (on_plan (plan_of l.plan)) l.drawn (row_inputs (plan_of l.plan).inputs l.value l.unknown) l.n 0 (going_of l.initial.cells l.initial.pending l.initial.stood l.initial.went) l.initial.out)
