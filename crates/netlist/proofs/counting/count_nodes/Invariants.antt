-- `netlist::counting::count_nodes` meets its contract. The loop: the uses by the nodes so far are counted. Assumes nothing.
use mathlib.Core.Path.{◌≡◌, ◌∙◌, ap}
use Prim.Native.Nat.{◌≤◌}
use native.Mathlib.Omega.{arith}
use Rattle.netlist.specs.Uses.{operand_uses}
use Rattle.netlist.proofs.Uses.{operands-none, operands-turn}
use borrow.Author.Rules.{rules}
use Rattle.netlist.proofs.counting.count_nodes.Given as goal

abbrev pub invariant-loop-n : goal.invariant-loop-n
invariant-loop-n l =
    (l.n ≤ l.count) × (l.uses ≡ operand_uses l.nodes l.initial.uses l.n)
