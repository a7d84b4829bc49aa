-- `verilog_items::names::name_list` meets its contract. The loop's invariant: the rest of the list gives the whole. Assumes nothing.
use borrow.Author.Rules.{rules}
use mathlib.Core.Path.{◌≡◌, refl, ◌∙◌}
use Prim.Native.Nat.{◌+◌, ◌-◌, ◌<◌, ◌≤◌}
use native.Mathlib.Nat.{sub-zero}
use native.Mathlib.Omega.{arith}
use borrow.Author.Tests.{not-true, not-false}
use Rattle.verilog_items.specs.Notes.{marks}
use Rattle.verilog_items.specs.Items.{names, name_list}
use Rattle.verilog_items.proofs.Turns.{names-none, names-stop, names-last, names_more}
use Rattle.verilog_items.proofs.names.name_list.Goals as goal

pub loop-init : goal.loop-init
unfolding name_list
loop-init c =
    rw sub-zero refl

pub returns-then-not-is_next : goal.returns-then-not-is_next
returns-then-not-is_next c =
    let h : 0 < c.args.count - c.args.at.next - c.loop.counter = omega (arith, c.loop-test.true, c.left-end.ensures) in
    names-stop _ _ _ _ _ _ _ h c.is_next.ensures (c.if-not-is_next.true) c.refused.ensures ∙ c.loop.invariant

pub returns-then-not-is_next-2 : goal.returns-then-not-is_next-2
returns-then-not-is_next-2 c =
    let h : 0 < c.args.count - c.args.at.next - c.loop.counter = omega (arith, c.loop-test.true, c.left-end.ensures) in
    names-last _ _ _ _ _ _ _ h c.is_next.ensures (c.if-not-is_next.false) c.mark.ensures c.mark-in-loop.ensures c.after-p.ensures c.is_next-in-loop.ensures (c.if-not-is_next-2.true) ∙ c.loop.invariant

pub loop-preserved : goal.loop-preserved
loop-preserved c =
    let h : 0 < c.args.count - c.args.at.next - c.loop.counter = omega (arith, c.loop-test.true, c.left-end.ensures) in
    let e : c.args.count - c.args.at.next - (c.loop.counter + 1) ≡ c.args.count - c.args.at.next - c.loop.counter - 1 = omega arith in
    rw e (names_more _ _ _ _ _ _ _ h c.is_next.ensures (c.if-not-is_next.false) c.mark.ensures c.mark-in-loop.ensures c.after-p.ensures c.is_next-in-loop.ensures (c.if-not-is_next-2.false) c.after-p-in-loop.ensures ∙ c.loop.invariant)

pub returns : goal.returns
returns c =
    let h : c.args.count - c.args.at.next - c.loop.counter ≤ 0 = omega (arith, c.loop-test.false, c.left-end.ensures) in
    names-none _ _ _ _ _ _ _ h c.refused-2.ensures ∙ c.loop.invariant
