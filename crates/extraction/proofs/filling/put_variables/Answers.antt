-- `filling::put_variables` meets its contract. The loop's invariant: the variables below `v` have their nodes. Assumes nothing.
use mathlib.Core.Path.{◌≡◌, ap, ◌∙◌}
use Prim.Native.Nat.{ℕ, ◌-◌, ◌≤◌}
use native.Mathlib.Omega.{arith}
use Rattle.extraction.specs.Filling.{variables_below}
use Rattle.extraction.proofs.Tables.{variables-none, variables-turn}
use borrow.Author.Rules.{rules}
use Rattle.extraction.proofs.filling.put_variables.Goals as goal

pub loop-v-init : goal.loop-v-init
loop-v-init c =
    (search rules, variables-none c.args.nodes.now)

pub loop-v-preserved : goal.loop-v-preserved
loop-v-preserved c =
    let a = c.args in
    let l = c.loop-v in
    (omega arith, variables-turn l.v a.nodes.now l.invariant.1 c.emit_node.ensures.nodes_after)

pub returns : goal.returns
returns c =
    let a = c.args in
    let l = c.loop-v in
    let e : l.v ≡ a.variables = omega arith in
    l.invariant.1 ∙ ap (λ (n : ℕ). variables_below n a.nodes.now) e
