-- `text::print_expr` and `text::print_operands` meet their contracts; the depth falls, or the number of operands.
-- Assumes nothing.
use mathlib.Core.Path.{◌∙◌}
use native.Mathlib.Omega.{arith}
use Rattle.text.specs.Printing.{shown_at}
use Rattle.writing.proofs.Buffer.{both}
use Rattle.text.proofs.Printing
use Rattle.text.proofs.+print_expr_print_operands.Goals as goal

pub print_expr-returns-then-depth-eq0 : goal.print_expr-returns-then-depth-eq0
print_expr-returns-then-depth-eq0 t c =
    let a = c.args in
    Printing.prints-none _ _ (Printing.shown-deep a.sheet.now a.definitions.now a.depth a.at c.if-depth-eq0.true)

pub print_expr-returns-then-sheet-at : goal.print_expr-returns-then-sheet-at
print_expr-returns-then-sheet-at t c =
    let a = c.args in
    Printing.prints-none _ _ (Printing.shown-end a.sheet.now a.definitions.now a.depth a.at c.if-sheet-at.true)

-- At a node that is there, the definition goes by its map.
pub print_expr-returns-then-map-eq2 : goal.print_expr-returns-then-map-eq2
print_expr-returns-then-map-eq2 t c =
    let a = c.args in
    let node = Printing.shown-node a.sheet.now a.definitions.now a.depth a.at _ _ c.if-depth-eq0.false
    (record { inside = c.if-sheet-at.false; map = c.byte_at-map.ensures; after = c.byte_at-b.ensures }) in
    Printing.prints _ _ _ _ (node ∙ Printing.node-variable _ _ _ _ _ _ c.if-map-eq2.true)
    c.put_marked-p.ensures

pub print_expr-returns-then-map-eq12 : goal.print_expr-returns-then-map-eq12
print_expr-returns-then-map-eq12 t c =
    let a = c.args in
    let node = Printing.shown-node a.sheet.now a.definitions.now a.depth a.at _ _ c.if-depth-eq0.false
    (record { inside = c.if-sheet-at.false; map = c.byte_at-map.ensures; after = c.byte_at-b.ensures }) in
    Printing.prints _ _ _ _ (node ∙ Printing.node-constant _ _ _ _ _ _ c.if-map-eq12.true)
    (rw (← c.word_at-value.ensures) (both _ _ _ _ _ c.put_marked-p-then-map-eq12.ensures c.put_marked-q.ensures))

pub print_expr-returns-then-map-eq4 : goal.print_expr-returns-then-map-eq4
print_expr-returns-then-map-eq4 t c =
    let a = c.args in
    let node = Printing.shown-node a.sheet.now a.definitions.now a.depth a.at _ _ c.if-depth-eq0.false
    (record { inside = c.if-sheet-at.false; map = c.byte_at-map.ensures; after = c.byte_at-b.ensures }) in
    Printing.prints _ _ _ _ (node ∙ Printing.node-unknown _ _ _ _ _ _ c.if-map-eq4.true)
    c.put_marked-p-then-map-eq4.ensures

pub print_expr-returns : goal.print_expr-returns
print_expr-returns t c =
    let a = c.args in
    let node = Printing.shown-node a.sheet.now a.definitions.now a.depth a.at _ _ c.if-depth-eq0.false
    (record { inside = c.if-sheet-at.false; map = c.byte_at-map.ensures; after = c.byte_at-b.ensures }) in
    let e = node ∙ Printing.node-operator _ _ _ _ _ _ c.if-map-eq2.false c.if-map-eq12.false c.if-map-eq4.false in
    Printing.prints-behind _ _ _ _ _ _ e (rw c.mark_of.ensures at c.put_marked-p-2.ensures)
    (rw (← c.operands_of-n.ensures) c.print_operands.ensures)

pub print_expr-print_operands-requires : goal.print_expr-print_operands-requires
print_expr-print_operands-requires t c =
    let a = c.args in
    let few = Printing.operands-few a.sheet.now a.definitions.now c.byte_at-map.result c.byte_at-b.result in
    omega (arith, c.operands_of-n.ensures, few)

pub print_operands-returns-then-n-eq0 : goal.print_operands-returns-then-n-eq0
print_operands-returns-then-n-eq0 t c =
    let a = c.args in
    Printing.prints-none _ _ (Printing.operands-none (shown_at a.depth a.sheet.now a.definitions.now) a.n a.at c.if-n-eq0.true)

pub print_operands-returns : goal.print_operands-returns
print_operands-returns t c =
    let a = c.args in
    let o = shown_at a.depth a.sheet.now a.definitions.now in
    let h = c.if-n-eq0.false in
    Printing.prints-behind _ _ _ _ _ _ (Printing.operands-more o a.n a.at h)
    (both _ _ _ _ _ c.put_byte-p.ensures c.print_expr-a.ensures.bytes)
    (rw (← c.print_expr-a.ensures.place) c.print_operands.ensures)
