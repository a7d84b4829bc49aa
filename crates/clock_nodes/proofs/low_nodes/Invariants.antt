-- `clock_nodes::low_nodes` meets its contract. The loop: the nodes so far noted. Assumes nothing.
use mathlib.Core.Path.{◌≡◌}
use Prim.Native.Nat.{◌≤◌}
use Rattle.clock_nodes.specs.Copying.{lows_to}
use Rattle.clock_nodes.proofs.low_nodes.Given as goal

abbrev pub invariant-loop-n : goal.invariant-loop-n
invariant-loop-n l =
    (l.n ≤ l.count) × (l.count ≤ 4096) × (l.lows ≡ lows_to l.nodes l.n l.initial.lows)
