-- `prepared_cycles::drives::by_draw` meets its contract. The loop's invariant: the draws that are left come to what all draws come to.
-- Assumes nothing.
use mathlib.Core.Path.{◌≡◌}
use Prim.Native.Nat.{◌-◌, ◌≤◌}
use Rattle.plan.specs.Plan.{plan_of}
use Rattle.prepared_cycles.specs.Drives.{going_of, on_plan, drawn_most, drawn}
use Rattle.prepared_cycles.proofs.drives.by_draw.Given as goal

abbrev pub invariant-loop : goal.invariant-loop
invariant-loop l =
    (l.counter ≤ drawn_most)
    × (drawn (on_plan (plan_of l.plan)) (drawn_most - l.counter) (going_of l.cells l.pending l.places l.e)
    ≡ drawn (on_plan (plan_of l.plan)) drawn_most (going_of l.initial.cells l.initial.pending l.initial.places l.initial.e))
