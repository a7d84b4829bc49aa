-- `prepared_cycles::run_phases` meets its contract. The loop: the phases that are left, from what was reached, end where all of them
-- do from the start. Assumes nothing.
use mathlib.Core.Path.{◌≡◌}
use Prim.Native.Nat.{◌-◌, ◌*◌, ◌/◌, ◌≤◌, ◌<◌}
use lib.ListN.{length}
use Rattle.plan.specs.Plan.{plan_of}
use Rattle.prepared_cycles.specs.Cycles.{row_inputs}
use Rattle.prepared_cycles.specs.Phases.{moment_of, phases_at}
use Rattle.prepared_cycles.proofs.run_phases.Given as goal

abbrev pub invariant-loop-p : goal.invariant-loop-p
invariant-loop-p l =
    (l.p ≤ l.n)
    × (l.n < 18446744073709551615)
    × (l.n ≡ 2 * (length l.value / 16))
    × (length l.unknown ≡ length l.value)
    × (phases_at (plan_of l.plan) (row_inputs (plan_of l.plan).inputs l.value l.unknown) (l.n - l.p) l.p (moment_of l.cells l.pending l.places l.standing)
    ≡ phases_at (plan_of l.plan) (row_inputs (plan_of l.plan).inputs l.value l.unknown) l.n 0 (moment_of l.initial.cells l.initial.pending l.initial.places l.initial.standing))
