-- `labels::take_line` meets its contract. Assumes nothing.
use mathlib.Core.Path.{◌∙◌}
use native.Mathlib.Omega.{arith}
use Rattle.labels.proofs.Labels.{name-inside, line-blank, line-wrong, line-named}
use Rattle.labels.proofs.take_line.Goals as goal

pub returns-then-p-eq1 : goal.returns-then-p-eq1
returns-then-p-eq1 c =
    line-blank _ _ _ _ _ _ _ c.parse_name-p.ensures c.if-p-eq1.true _ c.marked.ensures

pub returns-then-p-ne0 : goal.returns-then-p-ne0
returns-then-p-ne0 c =
    line-wrong _ _ _ _ _ _ _ c.parse_name-p.ensures c.if-p-eq1.false
    c.if-p-ne0.true _ c.marked-then-p-ne0.ensures

pub slice_bounds-named-count : goal.slice_bounds-named-count
slice_bounds-named-count c =
    let x = rw (← c.parse_name-p.ensures) at (name-inside
    c.args.line.now
    c.args.inputs
    c.args.registers
    c.args.wires) in
    omega arith

pub slice_bounds-named-start : goal.slice_bounds-named-start
slice_bounds-named-start c =
    let x = rw (← c.parse_name-p.ensures) at (name-inside
    c.args.line.now
    c.args.inputs
    c.args.registers
    c.args.wires) in
    omega arith

pub slice_bounds-named-end : goal.slice_bounds-named-end
slice_bounds-named-end c =
    let x = rw (← c.parse_name-p.ensures) at (name-inside
    c.args.line.now
    c.args.inputs
    c.args.registers
    c.args.wires) in
    omega arith

pub returns : goal.returns
returns c =
    c.named.ensures ∙ line-named _ _ _ _ _ _ _
    c.parse_name-p.ensures
    c.if-p-eq1.false c.if-p-ne0.false
