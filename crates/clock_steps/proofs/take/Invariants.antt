-- `clock_steps::take` meets its contract. The loop: the threads so far taken. Assumes nothing.
use mathlib.Core.Path.{◌≡◌}
use Prim.Native.Nat.{◌≤◌}
use Rattle.plan.specs.Plan.{node_at}
use Rattle.clock_steps.specs.Taking.{taking, take_below}
use Rattle.clock_steps.proofs.take.Given as goal

abbrev pub invariant-loop-i : goal.invariant-loop-i
invariant-loop-i l =
    (l.i ≤ l.threads) × (taking l.cells l.news l.places ≡ take_below (node_at l.lent) l.table l.numbers l.count l.i (taking l.initial.cells l.initial.news l.initial.places))
