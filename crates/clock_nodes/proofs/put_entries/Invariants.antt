-- `clock_nodes::put_entries` meets its contract. The loop: the entries so far put. Assumes nothing.
use mathlib.Core.Path.{◌≡◌}
use Prim.Native.Nat.{◌≤◌}
use Rattle.clock_nodes.specs.Rows.{put_entries}
use Rattle.clock_nodes.proofs.put_entries.Given as goal

abbrev pub invariant-loop-c : goal.invariant-loop-c
invariant-loop-c l =
    (l.c ≤ 33) × (l.table ≡ put_entries l.nodes l.rows l.row l.c l.initial.table)
