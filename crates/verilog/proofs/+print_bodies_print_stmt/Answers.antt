-- `verilog::print_stmt` and `verilog::print_bodies` meet their contracts; the depth falls, or the number of bodies.
-- Assumes nothing.
use Rattle.naming.specs.Naming.{name_of}
use mathlib.Core.Path.{◌∙◌}
use native.Mathlib.Omega.{arith}
use borrow.Author.Rules.{rules}
use Rattle.writing.proofs.Buffer.{both}
use Rattle.verilog.specs.Printing.{shape_of, stmt_at}
use Rattle.verilog.proofs.Printing
use Rattle.verilog.proofs.+print_bodies_print_stmt.Goals as goal

pub print_bodies-returns-then-k-eq0 : goal.print_bodies-returns-then-k-eq0
print_bodies-returns-then-k-eq0 t c =
    let a = c.args in
    let o = stmt_at (name_of a.names.now) a.sheet.now a.definitions.now a.depth in
    Printing.leaves_none _ _ (Printing.bodies-none o a.rest.shape a.rest.level a.rest.left a.at c.if-k-eq0.true)

pub print_bodies-print_stmt-a-requires : goal.print_bodies-print_stmt-a-requires
print_bodies-print_stmt-a-requires t c =
    let a = c.args in
    (search rules, omega (arith, c.inner_level-inner.ensures, Printing.inner-most a.rest.shape a.rest.left a.rest.level))

pub print_bodies-print_bodies-requires : goal.print_bodies-print_bodies-requires
print_bodies-print_bodies-requires t c =
    (search rules, search rules)

pub print_bodies-returns : goal.print_bodies-returns
print_bodies-returns t c =
    let a = c.args in
    let o = stmt_at (name_of a.names.now) a.sheet.now a.definitions.now a.depth in
    let x = c.print_stmt-a.ensures in
    Printing.leaves-behind _ _ _ _ _
    (Printing.bodies-more o a.rest.shape a.rest.level a.rest.left a.at _ c.if-k-eq0.false c.inner_level-inner.ensures)
    (both _ _ _ _ _ (Printing.leaves-puts _ _ _ x) c.put_closing-p.ensures)
    (rw (← Printing.leaves-next _ _ _ x) c.print_bodies.ensures)

pub print_stmt-returns-then-depth-eq0 : goal.print_stmt-returns-then-depth-eq0
print_stmt-returns-then-depth-eq0 t c =
    let a = c.args in
    Printing.leaves_none _ _ (Printing.stmt-deep (name_of a.names.now) a.sheet.now a.definitions.now a.depth a.level a.at
    c.if-depth-eq0.true)

pub print_stmt-returns-then-sheet-at : goal.print_stmt-returns-then-sheet-at
print_stmt-returns-then-sheet-at t c =
    let a = c.args in
    Printing.leaves_none _ _ (Printing.stmt-end (name_of a.names.now) a.sheet.now a.definitions.now a.depth a.level a.at
    c.if-sheet-at.true)

pub print_stmt-print_bodies-requires : goal.print_stmt-print_bodies-requires
print_stmt-print_bodies-requires t c = (
  omega (
    arith,
    c.bodies_of.ensures,
    Printing.bodies-few
        c.shape_of-shape.result,
  ),
  search rules,
)

pub print_stmt-returns : goal.print_stmt-returns
print_stmt-returns t c =
    let m = c.byte_at-map.ensures in
    let f = c.byte_at-first.ensures in
    Printing.form-path _ _ _ _ _ _ _ _ _ c.if-depth-eq0.false c.if-sheet-at.false
    (c.shape_of-shape.ensures ∙ (λ j. shape_of (m j) (f j))) c.bodies_of.ensures
    c.print_heading-h.ensures c.print_bodies.ensures
