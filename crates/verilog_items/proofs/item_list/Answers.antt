-- `verilog_items::item_list` meets its contract. The loop's invariant: the rest of the items gives the whole. Assumes nothing.
use borrow.Author.Rules.{rules}
use mathlib.Core.Path.{◌≡◌, refl, ◌∙◌}
use Prim.Native.Nat.{◌+◌, ◌-◌, ◌<◌, ◌≤◌}
use native.Mathlib.Nat.{sub-zero}
use native.Mathlib.Omega.{arith}
use borrow.Author.Tests.{not-true, not-false}
use Rattle.verilog_exprs.specs.Rows.{wrote}
use Rattle.verilog_items.specs.Notes.{notes}
use Rattle.verilog_items.specs.Items.{items, item_list}
use Rattle.verilog_items.proofs.Turns.{items-none, items-failed, items-end, items_more}
use Rattle.verilog_items.proofs.item_list.Goals as goal

pub loop-init : goal.loop-init
unfolding item_list
loop-init c =
    rw sub-zero refl

pub returns-then-not-p : goal.returns-then-not-p
returns-then-not-p c =
    let h : 0 < c.args.count - c.args.at.next - c.loop.counter = omega (arith, c.loop-test.true, c.left-end.ensures) in
    items-failed _ _ _ _ _ _ _ _ h (not-true _ c.if-not-p.true) ∙ c.loop.invariant

pub returns-then-is_next : goal.returns-then-is_next
returns-then-is_next c =
    let h : 0 < c.args.count - c.args.at.next - c.loop.counter = omega (arith, c.loop-test.true, c.left-end.ensures) in
    items-end _ _ _ _ _ _ _ _ h (not-false _ c.if-not-p.false) c.is_next.ensures c.if-is_next.true c.after.ensures ∙ c.loop.invariant

pub loop-preserved : goal.loop-preserved
loop-preserved c =
    let h : 0 < c.args.count - c.args.at.next - c.loop.counter = omega (arith, c.loop-test.true, c.left-end.ensures) in
    let e : c.args.count - c.args.at.next - (c.loop.counter + 1) ≡ c.args.count - c.args.at.next - c.loop.counter - 1 = omega arith in
    rw e (items_more _ _ _ _ _ _ _ _ h (not-false _ c.if-not-p.false) c.is_next.ensures c.if-is_next.false c.item-p.ensures ∙ c.loop.invariant)

pub returns : goal.returns
returns c =
    let h : c.args.count - c.args.at.next - c.loop.counter ≤ 0 = omega (arith, c.loop-test.false, c.left-end.ensures) in
    items-none _ _ _ _ _ _ _ _ h c.refused.ensures ∙ c.loop.invariant
