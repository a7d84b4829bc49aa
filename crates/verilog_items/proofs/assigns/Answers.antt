-- `verilog_items::assigns` meets its contract. The loop's invariant: the rest of the list gives the whole. Assumes nothing.
use borrow.Author.Rules.{rules}
use mathlib.Core.Path.{◌≡◌, refl, ◌∙◌}
use mathlib.Core.List.{List}
use Prim.Native.Nat.{◌+◌, ◌-◌, ◌<◌, ◌≤◌}
use native.Mathlib.Nat.{sub-zero}
use native.Mathlib.Omega.{arith}
use borrow.Author.Tests.{not-true, not-false}
use Rattle.verilog_exprs.specs.Rows.{wrote}
use Rattle.verilog_items.specs.Notes.{notes}
use Rattle.verilog_items.specs.Items.{targets}
use Rattle.verilog_items.proofs.Turns.{targets-none, targets-stop, targets-last, targets-more, assigns-whole, assigns-refused}
use Rattle.verilog_items.proofs.assigns.Goals as goal

pub loop-init : goal.loop-init
loop-init c ws =
    rw sub-zero refl

pub returns-then-not-is_next : goal.returns-then-not-is_next
returns-then-not-is_next c ws =
    let h : 0 < c.args.count - c.after-p.result.next - c.loop.counter = omega (arith, c.loop-test.true, c.left-end.ensures) in
    assigns-refused _ _ _ _ _ _ _ c.after-p.ensures _ (targets-stop _ _ _ _ _ _ _ _ h c.is_next.ensures c.if-not-is_next.true refl ∙ c.loop.invariant ws) c.refused.ensures

pub returns-then-not-is_next-2 : goal.returns-then-not-is_next-2
returns-then-not-is_next-2 c ws =
    let h : 0 < c.args.count - c.after-p.result.next - c.loop.counter = omega (arith, c.loop-test.true, c.left-end.ensures) in
    assigns-whole _ _ _ _ _ _ _ c.after-p.ensures _ (targets-last _ _ _ _ _ _ _ _ h c.is_next.ensures c.if-not-is_next.false (c.target-p.ensures ws) c.is_next-in-loop.ensures c.if-not-is_next-2.true ∙ c.loop.invariant ws) c.expect.ensures

pub loop-preserved : goal.loop-preserved
loop-preserved c ws =
    let h : 0 < c.args.count - c.after-p.result.next - c.loop.counter = omega (arith, c.loop-test.true, c.left-end.ensures) in
    let e : c.args.count - c.after-p.result.next - (c.loop.counter + 1) ≡ c.args.count - c.after-p.result.next - c.loop.counter - 1 = omega arith in
    rw e (targets-more _ _ _ _ _ _ _ _ h c.is_next.ensures c.if-not-is_next.false (c.target-p.ensures ws) c.is_next-in-loop.ensures c.if-not-is_next-2.false c.after-p-in-loop.ensures ∙ c.loop.invariant ws)

pub returns : goal.returns
returns c ws =
    let h : c.args.count - c.after-p.result.next - c.loop.counter ≤ 0 = omega (arith, c.loop-test.false, c.left-end.ensures) in
    assigns-refused _ _ _ _ _ _ _ c.after-p.ensures _ (targets-none _ _ _ _ _ _ _ _ h refl ∙ c.loop.invariant ws) c.refused-2.ensures
