-- `clock_steps::number_thread` meets its contract. The loop: the waits so far counted, the places so far numbered. Assumes nothing.
use mathlib.Core.Path.{◌≡◌}
use Prim.Native.Nat.{◌+◌, ◌≤◌}
use Rattle.plan.specs.Plan.{plan_of}
use Rattle.clock_steps.specs.Numbers.{waits_to, number_to}
use Rattle.clock_steps.proofs.number_thread.Given as goal

abbrev pub invariant-loop-p : goal.invariant-loop-p
invariant-loop-p l =
    (l.p ≤ l.n) × (l.n ≤ 256) × (l.k ≤ l.first + l.p) × (l.k ≡ l.first + waits_to (plan_of l.plan) l.i l.p) × (l.numbers ≡ number_to (plan_of l.plan) l.i l.first l.p l.initial.numbers)
