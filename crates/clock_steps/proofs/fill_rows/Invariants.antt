-- `clock_steps::fill_rows` meets its contract. The loop: the threads so far numbered, their rows filled. Assumes nothing.
use mathlib.Core.Path.{◌≡◌}
use Prim.Native.Nat.{◌*◌, ◌≤◌}
use Rattle.plan.specs.Plan.{plan_of}
use Rattle.clock_steps.specs.Numbers.{rows_to, numbers_to, fill_below}
use Rattle.clock_steps.proofs.fill_rows.Given as goal

abbrev pub invariant-loop-i : goal.invariant-loop-i
invariant-loop-i l =
    (l.i ≤ l.threads)
    × (l.threads ≤ 8)
    × (l.k ≤ 256 * l.i)
    × (l.k ≡ rows_to (plan_of l.plan) l.i)
    × (l.numbers ≡ numbers_to (plan_of l.plan) l.i l.initial.numbers)
    × (l.table ≡ fill_below l.nodes l.lows l.rows (plan_of l.plan) l.written l.i l.initial.table)
