-- `netlist::counting::count_nodes` meets its contract. The loop: the uses by the nodes so far are counted. Assumes nothing.
use mathlib.Core.Path.{◌≡◌, ◌∙◌, ap}
use Prim.Native.Nat.{ℕ, ◌≤◌, ◌-◌}
use native.Mathlib.Omega.{arith}
use Rattle.netlist.specs.Uses.{operand_uses}
use Rattle.netlist.proofs.Uses.{operands-none, operands-turn}
use borrow.Author.Rules.{rules}
use Rattle.netlist.proofs.counting.count_nodes.Goals as goal

pub loop-n-init : goal.loop-n-init
loop-n-init c =
    (search rules, operands-none _ _)

pub loop-n-preserved : goal.loop-n-preserved
loop-n-preserved c =
    let l = c.loop-n in
    let a = c.args in (
      search rules,
      operands-turn a.uses.now l.n a.nodes.now l.invariant.1 c.cell_at-cell.ensures c.count_operands.ensures,
    )

pub returns : goal.returns
returns c =
    let l = c.loop-n in
    let a = c.args in
    let e : l.n ≡ a.count = omega arith in
    l.invariant.1 ∙ ap (λ (n : ℕ). operand_uses a.nodes.now a.uses.now n) e
