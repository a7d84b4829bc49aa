-- `verilog_exprs::atom` meets its contract. Assumes nothing.
use mathlib.Core.Path.{◌∙◌}
use native.Mathlib.Omega.{arith}
use Rattle.verilog_exprs.proofs.Table.{row_inside}
use Rattle.verilog_exprs.proofs.Exprs.{atom-name, atom-size, atom-none}
use Rattle.verilog_exprs.proofs.atom.Goals as goal

pub overflow_add-result : goal.overflow_add-result
overflow_add-result c =
    let a = c.args in
    let h = row_inside a.kinds.now a.i 64 _ c.kind_at-k.ensures c.if-k.true
    (omega arith) in omega arith

pub returns-then-k : goal.returns-then-k
returns-then-k c =
    let a = c.args in
    atom-name a.kinds.now a.numbers.now _ a.i a.pos a.out.now c.kind_at-k.ensures _ _
    c.number_at-n.ensures c.if-k.true c.put_pair-p.ensures

pub overflow_add-i : goal.overflow_add-i
overflow_add-i c =
    let a = c.args in
    let h = row_inside a.kinds.now a.i 65 _ c.kind_at-k.ensures c.if-k-2.true
    (omega arith) in omega arith

pub returns : goal.returns
returns c =
    let a = c.args in
    atom-none a.kinds.now a.numbers.now _ a.i a.pos a.out.now c.kind_at-k.ensures c.if-k.false
    c.if-k-2.false

pub returns-then-k-2 : goal.returns-then-k-2
returns-then-k-2 c =
    let a = c.args in
    c.value.ensures
    ∙ atom-size a.kinds.now a.numbers.now _ a.i a.pos a.out.now c.kind_at-k.ensures _ _
    c.number_at-n.ensures c.if-k-2.true c.width_of.ensures
