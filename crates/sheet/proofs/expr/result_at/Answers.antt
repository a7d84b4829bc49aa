-- `sheet::expr::result_at` meets its contract, case by case. Assumes nothing.
use native.Mathlib.Omega.{arith}
use Rattle.sheet.proofs.Outlines.{parameters-inside, result-short, result-cut}
use Rattle.sheet.proofs.expr.result_at.Goals as goal

pub overflow_sub-end : goal.overflow_sub-end
overflow_sub-end c =
    let a = c.args in
    omega (arith, c.parameters_at-first.ensures, parameters-inside a.sheet.now a.place)

pub returns-then-count-end : goal.returns-then-count-end
returns-then-count-end c =
    let a = c.args in
    let p = c.parameters_at-first.ensures in
    let b = c.byte_at-count.ensures in
    (result-short _ _ p b c.if-count-end.true, omega (arith, p, b, c.shared_slice_known-1.given a.place))

pub returns-else-count-end : goal.returns-else-count-end
returns-else-count-end c =
    let a = c.args in
    let p = c.parameters_at-first.ensures in
    let b = c.byte_at-count.ensures in
    (result-cut _ _ p b c.if-count-end.false, omega (arith, p, b, c.if-count-end.false, c.shared_slice_known-1.given a.place))
