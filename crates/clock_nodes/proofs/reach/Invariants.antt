-- `clock_nodes::reach` meets its contract. The loop: the entries so far are reached. Assumes nothing.
use Prim.Native.Nat.{◌≤◌}
use lib.ListN.{length}
use Rattle.clock_nodes.proofs.Reaching.{Reaching}
use Rattle.clock_nodes.proofs.reach.Given as goal

abbrev pub invariant-loop-entry : goal.invariant-loop-entry
invariant-loop-entry l =
    (l.entry-index ≤ length l.rows) × Reaching l.rows l.entry-index l.n
