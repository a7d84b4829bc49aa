-- `counted::run_up` meets its contract. The loop: the choices so far accepted and the wires so far stored, and then the run of the
-- choices that are left, are the whole run. Assumes nothing.
use Prim.Native.Nat.{◌≤◌, ◌-◌}
use mathlib.Core.Path.{◌≡◌}
use Rattle.plan.specs.Plan.{plan_of}
use Rattle.plan_engine.specs.Live.{live}
use Rattle.counted.specs.Counted.{up_to}
use Rattle.counted.proofs.Counting.{ahead}
use Rattle.counted.proofs.run_up.Given as goal

abbrev pub invariant-loop-i : goal.invariant-loop-i
invariant-loop-i l =
    (l.i ≤ l.limit) × (l.stores ≤ l.i)
    × (ahead l.i l.stores (up_to (plan_of l.plan) (l.limit - l.i) l.left (live l.cells l.pending l.places l.m))
    ≡ up_to (plan_of l.plan) l.limit l.room (live l.initial.cells l.initial.pending l.initial.places l.initial.m))
