-- `netlist::node_count` meets its contract. The loop: the nodes from `n` on are blank. Assumes nothing.
use mathlib.Core.Path.{◌≡◌, refl, sym, ◌∙◌}
use Prim.Native.Nat.{◌≤◌}
use native.Mathlib.Omega.{arith}
use borrow.Author.Tests.{not-true, not-false}
use Rattle.netlist.specs.Cells.{count_below, node_count}
use Rattle.netlist.proofs.Cells.{count-filled, count-blank, count-one}
use borrow.Author.Rules.{rules}
use Rattle.netlist.proofs.node_count.Goals as goal

pub loop-n-init : goal.loop-n-init
loop-n-init c =
    (search rules, search rules, refl)

pub returns-then-not-is_blank : goal.returns-then-not-is_blank
unfolding node_count
returns-then-not-is_blank c =
    let l = c.loop-n in
    let e = sym c.is_blank.ensures ∙ c.if-not-is_blank.true in
    count-filled c.args.nodes.now l.n (omega arith) e ∙ l.invariant.2

pub loop-n-preserved : goal.loop-n-preserved
loop-n-preserved c =
    let l = c.loop-n in
    let e = sym c.is_blank.ensures ∙ c.if-not-is_blank.false in
    (search rules, search rules, count-blank c.args.nodes.now l.n (omega arith) e ∙ l.invariant.2)

pub returns : goal.returns
unfolding node_count
returns c =
    let l = c.loop-n in
    count-one c.args.nodes.now l.n (omega arith) ∙ l.invariant.2
