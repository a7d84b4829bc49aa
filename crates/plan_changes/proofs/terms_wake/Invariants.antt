-- `plan_changes::terms_wake` meets its contract. The loop: none of the terms so far fires.
use Prim.Native.Nat.{◌≤◌}
use mathlib.Core.Path.{◌≡◌}
use mathlib.Core.Bool.{false}
use Rattle.events.specs.Cycle.{any_below}
use Rattle.values.specs.Cells.{value_of}
use Rattle.plan.specs.Plan.{plan_of}
use Rattle.plan_changes.specs.Changes.{term_wakes}
use Rattle.plan_changes.proofs.terms_wake.Given as goal

abbrev pub invariant-loop-k : goal.invariant-loop-k
invariant-loop-k l =
    (l.k ≤ l.count) × (any_below l.k (term_wakes ((plan_of l.plan).terms l.i l.p) l.v (value_of l.old) (value_of l.new)) ≡ false)
