-- `clock_steps::fill_thread` meets its contract. The loop: the rows so far filled. Assumes nothing.
use mathlib.Core.Path.{◌≡◌}
use Prim.Native.Nat.{◌-◌, ◌≤◌}
use Rattle.clock_steps.specs.Numbers.{fill_from}
use Rattle.clock_steps.proofs.fill_thread.Given as goal

abbrev pub invariant-loop-k : goal.invariant-loop-k
invariant-loop-k l =
    (l.first ≤ l.k) × (l.k ≤ l.end) × (l.table ≡ fill_from l.nodes l.lows l.rows l.written l.first (l.k - l.first) l.initial.table)
