-- `clock_steps::settle` meets its contract. The loop: the wires so far settled. Assumes nothing.
use mathlib.Core.Path.{◌≡◌}
use Prim.Native.Nat.{◌≤◌}
use Rattle.plan.specs.Plan.{plan_of}
use Rattle.clock_steps.specs.Settling.{settle_to}
use Rattle.clock_steps.proofs.settle.Given as goal

abbrev pub invariant-loop-k : goal.invariant-loop-k
invariant-loop-k l =
    (l.k ≤ l.wires) × (l.wires ≤ 256) × (l.cells ≡ settle_to (plan_of l.plan) l.k l.initial.cells)
