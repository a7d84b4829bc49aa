-- The variables of an expression are marked by four functions that call each other; each meets its contract.
-- The measure goes by the depth, an expression of depth d hands its operands on at depth d - 1, and by the number of arguments,
-- at most four. Assumes nothing.
use borrow.Author.Rules.{rules}
use mathlib.Core.Path.{refl, sym, ◌∙◌}
use Rattle.tables.proofs.Readers.{binary-path, conditional-path, count_most, arguments-none, arguments-next, mark_node-none, mark-deep, mark-end, mark-node}
use Rattle.tables.proofs.Readers.{at-variable, at_constant, at-unknown, at-unary, at-binary, at-conditional, at_call}
use Rattle.tables.proofs.+mark_arguments_mark_binary_mark_conditional_mark_expr.Goals as goal

pub mark_arguments-returns-then-count-eq0 : goal.mark_arguments-returns-then-count-eq0
mark_arguments-returns-then-count-eq0 t c =
    sym (arguments-none _ _ _ _ c.if-count-eq0.true)

pub mark_arguments-returns : goal.mark_arguments-returns
mark_arguments-returns t c =
    arguments-next _ _ _ _ c.if-count-eq0.false c.mark_expr-a.ensures c.mark_arguments.ensures

pub mark_binary-returns : goal.mark_binary-returns
mark_binary-returns t c =
    binary-path _ _ _ c.mark_expr-a.ensures c.mark_expr.ensures

pub mark_conditional-returns : goal.mark_conditional-returns
mark_conditional-returns t c =
    conditional-path _ _ _ c.mark_expr-a.ensures c.mark_expr-b.ensures c.mark_expr.ensures

pub mark_expr-returns-then-depth-eq0 : goal.mark_expr-returns-then-depth-eq0
mark_expr-returns-then-depth-eq0 t c =
    sym (mark-deep _ _ _ _ _ _ c.if-depth-eq0.true)

pub mark_expr-returns-then-sheet-at : goal.mark_expr-returns-then-sheet-at
mark_expr-returns-then-sheet-at t c =
    sym (mark-end _ _ _ _ _ _ c.if-depth-eq0.false c.if-sheet-at.true)

pub mark_expr-mark_arguments-requires : goal.mark_expr-mark_arguments-requires
mark_expr-mark_arguments-requires t c =
    let most = count_most _ _ _ c.argument_count-count.ensures in search (rules, most)

pub mark_expr-returns-in-2 : goal.mark_expr-returns-in-2
mark_expr-returns-in-2 t c =
    let deep = c.if-depth-eq0.false in
    at-variable _ _ _ _ _ _ deep c.in-2.is c.byte_at-v.ensures c.mark_variable.ensures

pub mark_expr-returns-in-12 : goal.mark_expr-returns-in-12
mark_expr-returns-in-12 t c =
    at_constant _ _ _ _ _ _ c.if-depth-eq0.false c.in-12.is

pub mark_expr-returns-in-4 : goal.mark_expr-returns-in-4
mark_expr-returns-in-4 t c =
    at-unknown _ _ _ _ _ _ c.if-depth-eq0.false c.in-4.is

pub mark_expr-returns-in-17 : goal.mark_expr-returns-in-17
mark_expr-returns-in-17 t c =
    at-unary _ _ _ _ _ _ c.if-depth-eq0.false c.in-17.is c.mark_expr.ensures

pub mark_expr-returns-in-49 : goal.mark_expr-returns-in-49
mark_expr-returns-in-49 t c =
    at-binary _ _ _ _ _ _ c.if-depth-eq0.false c.in-49.is c.mark_binary.ensures

pub mark_expr-returns-in-113 : goal.mark_expr-returns-in-113
mark_expr-returns-in-113 t c =
    at-conditional _ _ _ _ _ _ c.if-depth-eq0.false c.in-113.is c.mark_conditional.ensures

pub mark_expr-returns-in-128 : goal.mark_expr-returns-in-128
mark_expr-returns-in-128 t c =
    at_call _ _ _ _ _ _ c.if-depth-eq0.false c.in-128.is c.byte_at-n.ensures c.argument_count-count.ensures
    c.mark_arguments.ensures

pub mark_expr-returns-in_default : goal.mark_expr-returns-in_default
mark_expr-returns-in_default t c =
    let r = c.in_default.in_default-own.rest in
    sym
    (mark-node _ _ _ _ _ _ c.if-depth-eq0.false refl
    ∙ mark_node-none _ _ _ _ _ _ _ r.0.0.0.0.0.0.1 r.0.0.0.0.0.1 r.0.0.0.0.1 r.0.0.0.1 r.0.0.1 r.0.1
    r.1)
