-- `netlist::node_count` meets its contract. The loop: the nodes from `n` on are blank. Assumes nothing.
use mathlib.Core.Path.{◌≡◌, refl, sym, ◌∙◌}
use Prim.Native.Nat.{◌≤◌}
use native.Mathlib.Omega.{arith}
use borrow.Author.Tests.{not-true, not-false}
use Rattle.netlist.specs.Cells.{count_below, node_count}
use Rattle.netlist.proofs.Cells.{count-filled, count-blank, count-one}
use borrow.Author.Rules.{rules}
use Rattle.netlist.proofs.node_count.Given as goal

abbrev pub invariant-loop-n : goal.invariant-loop-n
invariant-loop-n l =
    (1 ≤ l.n) × (l.n ≤ 4096) × (count_below l.nodes l.n ≡ count_below l.nodes 4096)

abbrev pub decreases-loop-n : goal.decreases-loop-n
decreases-loop-n l =
    l.n
