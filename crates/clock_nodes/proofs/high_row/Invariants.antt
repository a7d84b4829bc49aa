-- `clock_nodes::high_row` meets its contract. The loop: the registers so far counted. Assumes nothing.
use mathlib.Core.Path.{◌≡◌}
use Prim.Native.Nat.{◌≤◌}
use Rattle.masks.specs.Masks.{bits}
use Rattle.clock_nodes.specs.Rows.{high_to}
use Rattle.clock_nodes.proofs.high_row.Given as goal

abbrev pub invariant-loop-r : goal.invariant-loop-r
invariant-loop-r l =
    (l.r ≤ 32) × (l.x ≡ high_to l.nodes l.rows l.row (bits l.written) l.r)
