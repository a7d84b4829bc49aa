-- `counted::readers` meets its contract. The loop: the wires so far are counted. Assumes nothing.
use Prim.Native.Nat.{◌≤◌}
use mathlib.Core.Path.{◌≡◌}
use Rattle.plan.specs.Plan.{plan_of}
use Rattle.counted.specs.Counted.{readers_at}
use Rattle.counted.proofs.readers.Given as goal

abbrev pub invariant-loop-k : goal.invariant-loop-k
invariant-loop-k l =
    (l.k ≤ l.wires) × (l.count ≤ l.k) × (l.count ≡ readers_at (plan_of l.plan) l.a l.b l.k)
