-- `verilog::print_expr` and `verilog::print_operands` meet their contracts; the depth falls, or the number of operands.
-- Assumes nothing.
use mathlib.Core.Path.{ap, ◌∙◌}
use native.Mathlib.Omega.{arith}
use Rattle.writing.specs.Ascii.{ascii}
use Rattle.writing.specs.Buffer.{puts}
use Rattle.writing.proofs.Buffer.{both}
use Rattle.naming.specs.Naming.{name_of}
use Rattle.signs.specs.Signs.{constant_text}
use Rattle.verilog.specs.Printing.{shown_at}
use Rattle.verilog.proofs.Printing
use Rattle.verilog.proofs.+print_expr_print_operands.Goals as goal

pub print_expr-returns-then-depth-eq0 : goal.print_expr-returns-then-depth-eq0
print_expr-returns-then-depth-eq0 t c =
    let a = c.args in
    Printing.leaves_none _ _ (Printing.shown-deep (name_of a.names.now) a.sheet.now a.definitions.now a.depth a.at c.if-depth-eq0.true)

pub print_expr-returns-then-sheet-at : goal.print_expr-returns-then-sheet-at
print_expr-returns-then-sheet-at t c =
    let a = c.args in
    Printing.leaves_none _ _ (Printing.shown-end (name_of a.names.now) a.sheet.now a.definitions.now a.depth a.at c.if-sheet-at.true)

pub print_expr-returns-then-map-eq2 : goal.print_expr-returns-then-map-eq2
print_expr-returns-then-map-eq2 t c =
    let a = c.args in
    let n = Printing.shown-node (name_of a.names.now) a.sheet.now a.definitions.now a.depth a.at _ _ c.if-depth-eq0.false
    c.if-sheet-at.false c.byte_at-map.ensures c.byte_at-b.ensures in
    let e = n ∙ Printing.node-variable _ _ _ _ _ _ _
    c.if-map-eq2.true in
    Printing.leaves-shown _ _ _ e c.put_name-p.ensures

pub print_expr-returns-then-map-eq12 : goal.print_expr-returns-then-map-eq12
print_expr-returns-then-map-eq12 t c =
    let a = c.args in
    let n = Printing.shown-node (name_of a.names.now) a.sheet.now a.definitions.now a.depth a.at _ _ c.if-depth-eq0.false
    c.if-sheet-at.false c.byte_at-map.ensures c.byte_at-b.ensures in
    let e = n ∙ Printing.node-constant _ _ _ _ _ _ _
    c.if-map-eq12.true in
    Printing.leaves-shown _ _ _ e (c.put_constant-p.ensures ∙ ap (puts _)
    (ap (constant_text _) c.word_at-value.ensures))

pub print_expr-returns-then-map-eq4 : goal.print_expr-returns-then-map-eq4
print_expr-returns-then-map-eq4 t c =
    let a = c.args in
    let n = Printing.shown-node (name_of a.names.now) a.sheet.now a.definitions.now a.depth a.at _ _ c.if-depth-eq0.false
    c.if-sheet-at.false c.byte_at-map.ensures c.byte_at-b.ensures in
    let e = n ∙ Printing.node-unknown _ _ _ _ _ _ _
    c.if-map-eq4.true in
    Printing.leaves-shown _ _ _ e c.put_unknown-p.ensures

pub print_expr-print_operands-requires : goal.print_expr-print_operands-requires
print_expr-print_operands-requires t c =
    omega (arith, c.operands_of-rest.ensures.2)

pub print_expr-returns : goal.print_expr-returns
print_expr-returns t c =
    let a = c.args in
    let n = Printing.shown-node (name_of a.names.now) a.sheet.now a.definitions.now a.depth a.at _ _ c.if-depth-eq0.false
    c.if-sheet-at.false c.byte_at-map.ensures c.byte_at-b.ensures in
    let e = n ∙ Printing.node-operands _ _ _ _ _ _ _ c.if-map-eq2.false c.if-map-eq12.false
    c.if-map-eq4.false in
    let o = c.operands_of-rest.ensures in
    Printing.leaves-behind _ _ _ _ _ e c.put_opening-p.ensures
    (rw (← o.0, ← o.1) c.print_operands.ensures)

pub print_operands-returns-then-n-eq0 : goal.print_operands-returns-then-n-eq0
unfolding ascii
print_operands-returns-then-n-eq0 t c =
    let a = c.args in
    let o = shown_at (name_of a.names.now) a.sheet.now a.definitions.now a.depth in
    Printing.leaves-shown _ _ _ (Printing.operands-none o a.rest.op a.rest.left a.at c.if-n-eq0.true)
    c.put_byte-p.ensures

pub print_operands-returns : goal.print_operands-returns
print_operands-returns t c =
    let a = c.args in
    let o = shown_at (name_of a.names.now) a.sheet.now a.definitions.now a.depth in
    let x = c.print_expr-a.ensures in
    Printing.leaves-behind _ _ _ _ _ (Printing.operands-more o a.rest.op a.rest.left a.at c.if-n-eq0.false)
    (both _ _ _ _ _ c.put_between-p.ensures (Printing.leaves-puts _ _ _ x))
    (rw (← Printing.leaves-next _ _ _ x) c.print_operands.ensures)
