-- `clock_nodes::copy_nodes` meets its contract. The loop: the nodes so far copied. Assumes nothing.
use mathlib.Core.Path.{◌≡◌}
use Prim.Native.Nat.{◌≤◌}
use Rattle.clock_nodes.specs.Copying.{copy_to}
use Rattle.clock_nodes.proofs.copy_nodes.Given as goal

abbrev pub invariant-loop-n : goal.invariant-loop-n
invariant-loop-n l =
    (l.n ≤ l.count) × (l.count ≤ 4096) × (l.plan ≡ copy_to l.nodes l.sizes l.n l.initial.plan)
