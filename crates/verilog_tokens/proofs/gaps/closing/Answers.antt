-- `verilog_tokens::gaps::closing` meets its contract. The loop's invariant: what is left to do from `i` on makes the whole.
-- Assumes nothing.
use borrow.Author.Rules.{rules}
use mathlib.Core.Path.{sym, ◌∙◌}
use native.Mathlib.Omega.{arith}
use Rattle.verilog_tokens.proofs.Comments.{closing-starts, closing-stops, closing-none, closed-inside, closes_here}
use Rattle.verilog_tokens.proofs.Comments.{closes-never, closes-later}
use Rattle.verilog_tokens.proofs.Lengths.{length_some, length_none}
use Rattle.verilog_tokens.proofs.gaps.closing.Goals as goal

pub loop-i-init : goal.loop-i-init
loop-i-init c =
    closing-starts _ _

pub overflow_add-result : goal.overflow_add-result
overflow_add-result c =
    let a = c.args in
    let l = c.loop-i in
    let r-closes = c.closes in
    let i1 = c.if-closes in
    omega (arith, closed-inside a.text.now l.i (sym r-closes.ensures ∙ i1.true))

pub returns-then-closes : goal.returns-then-closes
returns-then-closes c =
    let a = c.args in
    let l = c.loop-i in
    let t = c.loop-i-test in
    let r-closes = c.closes in
    let i1 = c.if-closes in
    length_some _ _ (omega arith) (closes_here a.text.now a.at l.i l.invariant t.true (sym r-closes.ensures ∙ i1.true))

pub returns-then-text-i-ge128 : goal.returns-then-text-i-ge128
returns-then-text-i-ge128 c =
    let a = c.args in
    let l = c.loop-i in
    let t = c.loop-i-test in
    let r-closes = c.closes in
    let i1 = c.if-closes in
    let i2 = c.if-text-i-ge128 in
    length_none _ (closes-never a.text.now a.at l.i l.invariant (closing-stops a.text.now l.i t.true (sym r-closes.ensures
    ∙ i1.false) i2.true))

pub loop-i-preserved : goal.loop-i-preserved
loop-i-preserved c =
    let a = c.args in
    let l = c.loop-i in
    let t = c.loop-i-test in
    let r-closes = c.closes in
    let i1 = c.if-closes in
    let i2 = c.if-text-i-ge128 in (
      search rules,
      closes-later a.text.now a.at l.i l.invariant t.true (sym r-closes.ensures
          ∙ i1.false) i2.false,
    )

pub returns : goal.returns
returns c =
    let a = c.args in
    let l = c.loop-i in
    let t = c.loop-i-test in
    length_none _ (closes-never a.text.now a.at l.i l.invariant (closing-none a.text.now l.i t.false))
