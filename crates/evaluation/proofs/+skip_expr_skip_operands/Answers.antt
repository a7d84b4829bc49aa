-- An expression is passed by two functions that call each other; each meets its contract.
-- The measure goes by the depth, then by the operands that are left. Assumes nothing.
use mathlib.Core.Path.{sym}
use Rattle.evaluation.proofs.Bytes.{passed_none, passed-more, skip_at-stop, skip_at-constant, skip_at-other}
use Rattle.evaluation.proofs.+skip_expr_skip_operands.Goals as goal

pub skip_expr-returns-then-depth-eq0 : goal.skip_expr-returns-then-depth-eq0
skip_expr-returns-then-depth-eq0 t c =
    skip_at-stop _ _ _ _ c.then-depth-eq0.either

pub skip_expr-returns-then-map-eq12 : goal.skip_expr-returns-then-map-eq12
skip_expr-returns-then-map-eq12 t c =
    rw (c.skip_operands.ensures, c.operands_of-count.ensures, c.byte_at.ensures)
    (sym (skip_at-constant _ _ _ _ c.if-depth-eq0.false c.if-sheet-at.false c.if-map-eq12.true))

pub skip_expr-returns : goal.skip_expr-returns
skip_expr-returns t c =
    rw (c.skip_operands-2.ensures, c.operands_of-count.ensures, c.byte_at.ensures)
    (sym (skip_at-other _ _ _ _ c.if-depth-eq0.false c.if-sheet-at.false c.if-map-eq12.false))

pub skip_operands-returns-then-count-eq0 : goal.skip_operands-returns-then-count-eq0
skip_operands-returns-then-count-eq0 t c =
    passed_none _ _ _ c.if-count-eq0.true

pub skip_operands-returns : goal.skip_operands-returns
skip_operands-returns t c =
    rw (c.skip_operands.ensures, c.skip_expr-next.ensures) (passed-more _ _ _ c.if-count-eq0.false)
