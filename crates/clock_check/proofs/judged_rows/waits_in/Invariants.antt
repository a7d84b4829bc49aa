-- `clock_check::judged_rows::waits_in` meets its contract. The loop: the waits so far are counted. Assumes nothing.
use mathlib.Core.Path.{◌≡◌}
use Prim.Native.Nat.{◌+◌, ◌≤◌}
use Rattle.plan.specs.Plan.{plan_of}
use Rattle.clock_steps.specs.Numbers.{waits_to}
use Rattle.clock_check.proofs.judged_rows.waits_in.Given as goal

abbrev pub invariant-loop-p : goal.invariant-loop-p
invariant-loop-p l =
    (l.p ≤ l.n) × (l.n ≤ 256) × (l.k ≤ l.p) × (l.k ≡ 0 + waits_to (plan_of l.plan) l.i l.p)
