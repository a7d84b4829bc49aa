-- `outputs::common` meets its contract. The loop's invariant: the bytes that are passed and those that agree in the rests are as many as
-- agree in the whole. Assumes nothing.
use native.Mathlib.Omega.{arith}
use Rattle.outputs.proofs.Meeting.{common-over, common-short, common-differ, common-more}
use Rattle.outputs.proofs.common.Goals as goal

pub loop-i-init : goal.loop-i-init
loop-i-init c =
    (omega arith, omega arith)

pub returns-then-b-i : goal.returns-then-b-i
returns-then-b-i c =
    let l = c.loop-i in
    let a = c.args in
    omega (arith, common-short a.a.now a.b.now l.i c.loop-i-test.true c.if-b-i.true, l.invariant.1)

pub returns-then-a-i : goal.returns-then-a-i
returns-then-a-i c =
    let l = c.loop-i in
    let a = c.args in
    omega (
      arith,
      common-differ a.a.now a.b.now l.i c.loop-i-test.true (omega (arith, c.if-b-i.false)) c.if-a-i.true,
      l.invariant.1,
    )

pub loop-i-preserved : goal.loop-i-preserved
loop-i-preserved c =
    let l = c.loop-i in
    let a = c.args in (
      omega arith,
      omega (
        arith,
        common-more a.a.now a.b.now l.i c.loop-i-test.true (omega (arith, c.if-b-i.false)) c.if-a-i.false,
        l.invariant.1,
      ),
    )

pub returns : goal.returns
returns c =
    let l = c.loop-i in
    let a = c.args in
    omega (arith, common-over a.a.now a.b.now l.i c.loop-i-test.false, l.invariant.0, l.invariant.1)
