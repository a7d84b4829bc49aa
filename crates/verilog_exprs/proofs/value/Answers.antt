-- `verilog_exprs::value` meets its contract. Assumes nothing.
use native.Mathlib.Omega.{arith}
use Rattle.verilog_exprs.proofs.Table.{row_inside}
use Rattle.verilog_exprs.proofs.Exprs.{value-known, value-unknown, value_none}
use Rattle.verilog_exprs.proofs.value.Goals as goal

pub overflow_add-result : goal.overflow_add-result
overflow_add-result c =
    let a = c.args in
    let h = row_inside a.kinds.now a.i 67 _ c.kind_at-k.ensures c.if-k.true (omega arith) in omega arith

pub returns-then-k : goal.returns-then-k
returns-then-k c =
    let a = c.args in
    value-known a.kinds.now a.numbers.now _ a.i a.pos a.out.now c.kind_at-k.ensures a.width _ _
    c.if-k.true c.number_at-v.ensures c.put_constant-p.ensures

pub overflow_add-result-then-k-2 : goal.overflow_add-result-then-k-2
overflow_add-result-then-k-2 c =
    let a = c.args in
    let h = row_inside a.kinds.now a.i 68 _ c.kind_at-k.ensures c.if-k-2.true
    (omega arith) in omega arith

pub returns-then-k-2 : goal.returns-then-k-2
returns-then-k-2 c =
    let a = c.args in
    value-unknown a.kinds.now a.numbers.now _ a.i a.pos a.out.now c.kind_at-k.ensures a.width _
    c.if-k-2.true c.put_pair-p.ensures

pub returns : goal.returns
returns c =
    let a = c.args in
    value_none a.kinds.now a.numbers.now _ a.i a.pos a.out.now c.kind_at-k.ensures a.width
    c.if-k.false c.if-k-2.false
