-- `walk::own_row` meets its contract. The loop's invariant: the registers below `r` have their own variables. Assumes nothing.
use mathlib.Core.Path.{◌≡◌, ap, ◌∙◌}
use Prim.Native.Nat.{ℕ, ◌-◌, ◌≤◌}
use native.Mathlib.Omega.{arith}
use lib.ListN.{replicate}
use Rattle.extraction.specs.Walking.{fill_below, own_node, own_at}
use Rattle.extraction.proofs.Walking.{fill_none, fill-turn}
use borrow.Author.Rules.{rules}
use Rattle.extraction.proofs.walk.own_row.Goals as goal

pub loop-r-init : goal.loop-r-init
loop-r-init c =
    let a = c.args in (search rules, fill_none (own_node a.inputs a.registers) (replicate 32 0))

pub loop-r-preserved : goal.loop-r-preserved
loop-r-preserved c =
    let a = c.args in
    let l = c.loop-r in
    (omega arith, fill-turn (own_node a.inputs a.registers) (replicate 32 0) l.r l.invariant.1 c.own_node.ensures)

pub returns : goal.returns
unfolding own_at
returns c =
    let a = c.args in
    let l = c.loop-r in
    let e : l.r ≡ 32 = omega arith in
    l.invariant.1 ∙ ap (λ (n : ℕ). fill_below (own_node a.inputs a.registers) n (replicate 32 0)) e
