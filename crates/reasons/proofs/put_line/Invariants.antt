-- `reasons::put_line` meets its contract. The loop's invariant: the line that is left to find is the one wanted. Assumes nothing.
use Prim.Native.Nat.{◌-◌, ◌≤◌}
use mathlib.Core.Path.{◌≡◌}
use lib.ListN.{drop}
use Rattle.reasons.specs.Reasons.{line_of}
use Rattle.reasons.proofs.put_line.Given as goal

abbrev pub invariant-loop : goal.invariant-loop
invariant-loop l =
    (l.counter ≤ l.n) × (line_of (l.n - l.counter) (drop l.from l.table) ≡ line_of l.n l.table)
