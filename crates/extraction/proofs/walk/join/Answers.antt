-- `walk::join` meets its contract. The loop's invariant: the registers below `r` are merged. Assumes nothing.
use mathlib.Core.Path.{◌≡◌, ap, ◌∙◌}
use Prim.Native.Nat.{ℕ, ◌-◌, ◌≤◌}
use native.Mathlib.Omega.{arith}
use Rattle.extraction.specs.Walking.{walking, walked, merge_below}
use Rattle.extraction.proofs.Walking.{merge_none, merge-turn, join-path}
use borrow.Author.Rules.{rules}
use Rattle.extraction.proofs.walk.join.Goals as goal

pub loop-r-init : goal.loop-r-init
loop-r-init c =
    let a = c.args in (search rules, merge_none a.written a.c a.a a.b a.nodes.now)

pub loop-r-preserved : goal.loop-r-preserved
loop-r-preserved c =
    let a = c.args in
    let l = c.loop-r in
    (omega arith, merge-turn a.written a.c a.a a.b a.nodes.now l.r l.invariant.1 c.merge-m.ensures)

pub returns : goal.returns
returns c =
    let a = c.args in
    let l = c.loop-r in
    let e : l.r ≡ 32 = omega arith in
    join-path a.written a.c a.a a.b a.nodes.now
    (l.invariant.1 ∙ ap (λ (r : ℕ). merge_below a.written a.c a.a a.b r a.nodes.now) e)
    c.emit_node-n.ensures.value c.emit_node-n.ensures.nodes_after
