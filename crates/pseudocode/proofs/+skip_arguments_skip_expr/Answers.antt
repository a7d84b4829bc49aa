-- The place after an expression, node by node, and after a call's arguments; what is left of the depth falls, or the number of
-- arguments.
use Prim.Native.Nat.{ℕ, ◌+◌, ◌-◌}
use borrow.Author.Rules.{rules}
use mathlib.Core.Path.{sym, ap, ◌∙◌}
use Rattle.sheet.specs.Expression.{a_variable, a_constant, an_unknown, a_unary, a_binary, a_conditional, a_call, kind_of}
use Rattle.sheet.proofs.Expression.{map_of}
use Rattle.sheet.proofs.Nodes.{other-map}
use Rattle.pseudocode.specs.Skipping.{every_map, argument_count, skip_arguments, skip_node, skip_at}
use Rattle.pseudocode.proofs.Skipping.{arguments-most, arguments-none, arguments-next, skip-stop, skip-kind, skip-other}
use Rattle.pseudocode.proofs.+skip_arguments_skip_expr.Goals as goal

pub skip_arguments-returns-then-count-eq0 : goal.skip_arguments-returns-then-count-eq0
skip_arguments-returns-then-count-eq0 t c =
    sym (arguments-none _ _ _ c.if-count-eq0.true)

pub skip_arguments-returns : goal.skip_arguments-returns
skip_arguments-returns t c =
    c.skip_arguments.ensures ∙ sym (arguments-next _ _ _ c.if-count-eq0.false c.skip_expr-b.ensures)

pub skip_expr-returns-then-depth-eq0 : goal.skip_expr-returns-then-depth-eq0
skip_expr-returns-then-depth-eq0 t c =
    sym (skip-stop _ _ _ _ c.then-depth-eq0.either)

pub skip_expr-skip_arguments-requires : goal.skip_expr-skip_arguments-requires
skip_expr-skip_arguments-requires t c =
    let a = c.args in
    let most = arguments-most a.sheet.now a.definitions.now c.byte_at-in-128.result in
    let e = c.argument_count-count.ensures in
    search (rules, most, e)

pub skip_expr-returns-in-2 : goal.skip_expr-returns-in-2
unfolding skip_node map_of
skip_expr-returns-in-2 t c =
    sym (skip-kind _ _ _ _ a_variable c.if-depth-eq0.false c.if-at-ge8192.false (sym c.byte_at.ensures ∙ c.in-2.is))

pub skip_expr-returns-in-12 : goal.skip_expr-returns-in-12
unfolding skip_node map_of
skip_expr-returns-in-12 t c =
    sym (skip-kind _ _ _ _ a_constant c.if-depth-eq0.false c.if-at-ge8192.false (sym c.byte_at.ensures ∙ c.in-12.is))

pub skip_expr-returns-in-4 : goal.skip_expr-returns-in-4
unfolding skip_node map_of
skip_expr-returns-in-4 t c =
    sym (skip-kind _ _ _ _ an_unknown c.if-depth-eq0.false c.if-at-ge8192.false (sym c.byte_at.ensures ∙ c.in-4.is))

pub skip_expr-returns-in-17 : goal.skip_expr-returns-in-17
unfolding skip_node map_of
skip_expr-returns-in-17 t c =
    c.skip_expr.ensures ∙ sym (skip-kind _ _ _ _ a_unary c.if-depth-eq0.false c.if-at-ge8192.false (sym c.byte_at.ensures ∙ c.in-17.is))

pub skip_expr-returns-in-49 : goal.skip_expr-returns-in-49
unfolding skip_node map_of
skip_expr-returns-in-49 t c =
    let a = c.args in
    c.skip_expr-in-49.ensures
    ∙ ap (skip_at (a.depth - 1) a.sheet.now a.definitions.now) c.skip_expr-b.ensures
    ∙ sym (skip-kind _ _ _ _ a_binary c.if-depth-eq0.false c.if-at-ge8192.false (sym c.byte_at.ensures ∙ c.in-49.is))

pub skip_expr-returns-in-113 : goal.skip_expr-returns-in-113
unfolding skip_node map_of
skip_expr-returns-in-113 t c =
    let a = c.args in
    let skip = skip_at (a.depth - 1) a.sheet.now a.definitions.now in
    c.skip_expr-in-113.ensures
    ∙ ap skip (c.skip_expr-b-in-113.ensures ∙ ap skip c.skip_expr-a.ensures)
    ∙ sym (skip-kind _ _ _ _ a_conditional c.if-depth-eq0.false c.if-at-ge8192.false (sym c.byte_at.ensures ∙ c.in-113.is))

pub skip_expr-returns-in-128 : goal.skip_expr-returns-in-128
unfolding skip_node map_of
skip_expr-returns-in-128 t c =
    let a = c.args in
    let s = a.sheet.now in
    let ds = a.definitions.now in
    c.skip_arguments.ensures
    ∙ ap (λ (n : ℕ). skip_arguments (skip_at (a.depth - 1) s ds) n (a.at + 2))
    (c.argument_count-count.ensures ∙ ap (argument_count s ds) c.byte_at-in-128.ensures)
    ∙ sym (skip-kind _ _ _ _ a_call c.if-depth-eq0.false c.if-at-ge8192.false (sym c.byte_at.ensures ∙ c.in-128.is))

-- So many arguments as the definition says, at most four, are below the measure of one level more.

pub skip_expr-returns-in_default : goal.skip_expr-returns-in_default
skip_expr-returns-in_default t c =
    let at = c.args.at in
    let r = c.in_default.in_default-own.rest in
    sym
    (skip-other _ _ at _ c.if-depth-eq0.false c.if-at-ge8192.false
    (ap (λ (m : ℕ). kind_of every_map m at) (sym c.byte_at.ensures)
    ∙ other-map every_map _ at r.0.0.0.0.0.0.1 r.0.0.0.0.0.1 r.0.0.0.0.1 r.0.0.0.1 r.0.0.1 r.0.1 r.1))
