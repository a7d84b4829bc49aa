-- `clock_nodes::low_row` meets its contract. The loop: the registers so far counted. Assumes nothing.
use mathlib.Core.Path.{◌≡◌}
use Prim.Native.Nat.{◌≤◌}
use Rattle.masks.specs.Masks.{bits}
use Rattle.clock_nodes.specs.Rows.{low_to}
use Rattle.clock_nodes.proofs.low_row.Given as goal

abbrev pub invariant-loop-r : goal.invariant-loop-r
invariant-loop-r l =
    (l.r ≤ 32) × (l.x ≡ low_to l.nodes l.lows l.rows l.row (bits l.written) l.r)
