-- `sheet::expr::read_expr` and the functions that read its operator nodes and its calls meet their contracts: each way through
-- the code is a law of proofs/Nodes or proofs/Passing. The measure is 300 times the levels left, and more in a node: by the
-- parameters that are left, in a call's arguments. Assumes nothing.
use borrow.Author.Rules.{rules}
use mathlib.Core.Path.{refl, sym, ap, ◌∙◌}
use Prim.Native.Nat.{◌-◌}
use native.Mathlib.Omega.{arith}
use borrow.Author.Tests.{ne_eqb}
use lib.ListN.{drop}
use Rattle.sheet.specs.Expression.{a_variable, a_constant, an_unknown, a_unary, a_binary, a_conditional, a_call, node}
use Rattle.sheet.specs.Answers.{expr_answer}
use Rattle.sheet.specs.Parts.{outlines}
use Rattle.sheet.proofs.Expression.{map_of, Allowed, map-kind}
use Rattle.sheet.proofs.Answers.{byte-read, byte-refused, expr-read, expr-refused, answer-read, answer-refused, arguments-read, arguments-refused, answer-arguments, answer-arguments-refused}
use Rattle.sheet.proofs.Outlines.{outlines-length}
use Rattle.sheet.proofs.Passing.{positive, function-below, part_length, behind-of, inside_of, outline-of, named-arguments, call-answer, call-wide, none-same, others-refused, arguments-same, arguments-other}
use Rattle.sheet.proofs.Nodes
use Rattle.sheet.proofs.expr.+read_arguments_read_binary_read_call_read_conditional_read_expr_read_unary.Goals as goal

pub read_arguments-returns-then-parameters-eq0 : goal.read_arguments-returns-then-parameters-eq0
read_arguments-returns-then-parameters-eq0 t c =
    answer-arguments _ (Nodes.arguments-none _ _ _ c.if-parameters-eq0.true) refl (none-same _ c.if-parameters-eq0.true)

pub read_arguments-returns-in_default : goal.read_arguments-returns-in_default
read_arguments-returns-in_default t c =
    let e = (expr-read c.read_expr-e.ensures c.in-Read.is).1 in
    let told = c.in_default.is in
    told ∙ answer-arguments-refused _ (Nodes.arguments-rest _ _ _ c.if-parameters-eq0.false e (others-refused _ c.args.parameters.now c.if-parameters-eq0.false _ (arguments-refused _ c.read_arguments-rest.ensures told)))

pub read_arguments-returns-in-Refused : goal.read_arguments-returns-in-Refused
read_arguments-returns-in-Refused t c =
    answer-arguments-refused _ (Nodes.arguments-first _ _ _ c.if-parameters-eq0.false (expr-refused c.read_expr-e.ensures c.in-Refused.is))

pub read_arguments-returns-then-wanted-width : goal.read_arguments-returns-then-wanted-width
read_arguments-returns-then-wanted-width t c =
    let e = (expr-read c.read_expr-e.ensures c.in-Read.is).1 in
    let r = arguments-read _ c.read_arguments-rest.ensures c.in-Read-rest.is in
    arguments-same _ _ c.if-parameters-eq0.false _ e r c.if-wanted-width.true

pub read_arguments-returns-else-wanted-width : goal.read_arguments-returns-else-wanted-width
read_arguments-returns-else-wanted-width t c =
    let e = (expr-read c.read_expr-e.ensures c.in-Read.is).1 in
    let r = arguments-read _ c.read_arguments-rest.ensures c.in-Read-rest.is in
    rw (ne_eqb _ _ c.if-wanted-width.false) (arguments-other _ _ c.if-parameters-eq0.false _ e r c.if-wanted-width.false)

pub read_binary-returns-in-Refused : goal.read_binary-returns-in-Refused
read_binary-returns-in-Refused t c =
    answer-refused (Nodes.binary-operator _ _ _ _ (byte-refused c.read_within-read.ensures c.in-Refused.is))

pub read_binary-returns-in_default : goal.read_binary-returns-in_default
read_binary-returns-in_default t c =
    let o = byte-read c.read_within-read.ensures c.in-Byte.is in
    let told = c.in_default.is in
    told ∙ answer-refused (Nodes.binary-first _ _ _ _ o (expr-refused c.read_expr-a.ensures told))

pub read_binary-returns-in_default-b : goal.read_binary-returns-in_default-b
read_binary-returns-in_default-b t c =
    let o = byte-read c.read_within-read.ensures c.in-Byte.is in
    let a = (expr-read c.read_expr-a.ensures c.in-Read.is).1 in
    let told = c.in_default-b.is in
    told ∙ answer-refused (Nodes.binary-second _ _ _ _ o a (expr-refused c.read_expr-b.ensures told))

pub read_binary-returns-then-width-other : goal.read_binary-returns-then-width-other
read_binary-returns-then-width-other t c =
    let o = byte-read c.read_within-read.ensures c.in-Byte.is in
    let a = (expr-read c.read_expr-a.ensures c.in-Read.is).1 in
    let b = (expr-read c.read_expr-b.ensures c.in-Read-b.is).1 in
    answer-refused (Nodes.binary-apart _ _ _ _ o a b c.if-width-other.true)

pub read_binary-returns : goal.read_binary-returns
read_binary-returns t c =
    let o = byte-read c.read_within-read.ensures c.in-Byte.is in
    let a = (expr-read c.read_expr-a.ensures c.in-Read.is).1 in
    let b = (expr-read c.read_expr-b.ensures c.in-Read-b.is).1 in
    answer-read (Nodes.binary-made _ _ _ _ o a b c.if-width-other.false) c.binary_width.ensures

pub read_call-returns-in-Refused : goal.read_call-returns-in-Refused
read_call-returns-in-Refused t c =
    let a = c.args in
    answer-refused (Nodes.call-function _ _ _ _ (byte-refused (c.read_function-read.ensures 0 0 _ _ (outlines-length a.sheet.now a.definitions.now a.callable)) c.in-Refused.is))

pub read_call-slice_bounds-parameters-count : goal.read_call-slice_bounds-parameters-count
read_call-slice_bounds-parameters-count t c =
    omega (arith, behind-of _ _ c.parameters_at-first.ensures c.result_at-last.ensures.0)

pub read_call-slice_bounds-parameters-start : goal.read_call-slice_bounds-parameters-start
read_call-slice_bounds-parameters-start t c =
    omega (arith, behind-of _ _ c.parameters_at-first.ensures c.result_at-last.ensures.0, inside_of _ _ c.result_at-last.ensures.0)

pub read_call-slice_bounds-parameters-end : goal.read_call-slice_bounds-parameters-end
read_call-slice_bounds-parameters-end t c =
    omega (arith, behind-of _ _ c.parameters_at-first.ensures c.result_at-last.ensures.0, inside_of _ _ c.result_at-last.ensures.0)

pub read_call-read_arguments-found-requires : goal.read_call-read_arguments-found-requires
read_call-read_arguments-found-requires t c =
    let a = c.args in
    let h = part_length (c.result_at-last.result - c.parameters_at-first.result) (drop c.parameters_at-first.result a.sheet.now) in
    let e = c.parameters_at-first.ensures in
    let l = c.result_at-last.ensures.1 in
    search (rules, h, e, l)

pub read_call-returns-in-Refused-found : goal.read_call-returns-in-Refused-found
read_call-returns-in-Refused-found t c =
    let a = c.args in
    let fs = outlines a.sheet.now a.definitions.now a.callable in
    let f = byte-read (c.read_function-read.ensures 0 0 a.widths.now fs (outlines-length a.sheet.now a.definitions.now a.callable)) c.in-Byte.is in
    let o = outline-of a.sheet.now a.definitions.now _ a.callable c.definition_at-place.ensures c.parameters_at-first.ensures c.result_at-last.ensures.0 (function-below _ _ _ _ _ _ _ _ f) in
    answer-refused (Nodes.call-arguments _ _ _ _ f (named-arguments _ _ _ _ _ _ o _ (arguments-refused _ c.read_arguments-found.ensures c.in-Refused-found.is)))

pub read_call-returns-then-fits : goal.read_call-returns-then-fits
read_call-returns-then-fits t c =
    let a = c.args in
    let fs = outlines a.sheet.now a.definitions.now a.callable in
    let f = byte-read (c.read_function-read.ensures 0 0 a.widths.now fs (outlines-length a.sheet.now a.definitions.now a.callable)) c.in-Byte.is in
    let o = outline-of a.sheet.now a.definitions.now _ a.callable c.definition_at-place.ensures c.parameters_at-first.ensures c.result_at-last.ensures.0 (function-below _ _ _ _ _ _ _ _ f) in
    let es = arguments-read _ c.read_arguments-found.ensures c.in-Read.is in
    call-answer _ _ _ _ _ _ _ f o es c.if-fits.true c.byte_at.ensures

pub read_call-returns-else-fits : goal.read_call-returns-else-fits
read_call-returns-else-fits t c =
    let a = c.args in
    let fs = outlines a.sheet.now a.definitions.now a.callable in
    let f = byte-read (c.read_function-read.ensures 0 0 a.widths.now fs (outlines-length a.sheet.now a.definitions.now a.callable)) c.in-Byte.is in
    let o = outline-of a.sheet.now a.definitions.now _ a.callable c.definition_at-place.ensures c.parameters_at-first.ensures c.result_at-last.ensures.0 (function-below _ _ _ _ _ _ _ _ f) in
    let es = arguments-read _ c.read_arguments-found.ensures c.in-Read.is in
    call-wide _ _ _ _ _ _ _ f o es c.if-fits.false

pub read_conditional-returns-in-Refused : goal.read_conditional-returns-in-Refused
read_conditional-returns-in-Refused t c =
    answer-refused (Nodes.conditional-operator _ _ _ _ (byte-refused c.read_within-read.ensures c.in-Refused.is))

pub read_conditional-returns-in_default-c : goal.read_conditional-returns-in_default-c
read_conditional-returns-in_default-c t c =
    let o = byte-read c.read_within-read.ensures c.in_default.is in
    let told = c.in_default-c.is in
    told ∙ answer-refused (Nodes.conditional-test _ _ _ _ o (expr-refused c.read_expr-c.ensures told))

pub read_conditional-returns-in_default-a : goal.read_conditional-returns-in_default-a
read_conditional-returns-in_default-a t c =
    let o = byte-read c.read_within-read.ensures c.in_default.is in
    let x = (expr-read c.read_expr-c.ensures c.in-Read.is).1 in
    let told = c.in_default-a.is in
    told ∙ answer-refused (Nodes.conditional-first _ _ _ _ o x (expr-refused c.read_expr-a.ensures told))

pub read_conditional-returns-in_default-b : goal.read_conditional-returns-in_default-b
read_conditional-returns-in_default-b t c =
    let o = byte-read c.read_within-read.ensures c.in_default.is in
    let x = (expr-read c.read_expr-c.ensures c.in-Read.is).1 in
    let a = (expr-read c.read_expr-a.ensures c.in-Read-a.is).1 in
    let told = c.in_default-b.is in
    told ∙ answer-refused (Nodes.conditional-second _ _ _ _ o x a (expr-refused c.read_expr-b.ensures told))

pub read_conditional-returns-then-width-other : goal.read_conditional-returns-then-width-other
read_conditional-returns-then-width-other t c =
    let o = byte-read c.read_within-read.ensures c.in_default.is in
    let x = (expr-read c.read_expr-c.ensures c.in-Read.is).1 in
    let a = (expr-read c.read_expr-a.ensures c.in-Read-a.is).1 in
    let b = (expr-read c.read_expr-b.ensures c.in-Read-b.is).1 in
    answer-refused (Nodes.conditional-apart _ _ _ _ o x a b c.if-width-other.true)

pub read_conditional-returns : goal.read_conditional-returns
read_conditional-returns t c =
    let o = byte-read c.read_within-read.ensures c.in_default.is in
    let x = (expr-read c.read_expr-c.ensures c.in-Read.is).1 in
    let a = (expr-read c.read_expr-a.ensures c.in-Read-a.is).1 in
    let b = (expr-read c.read_expr-b.ensures c.in-Read-b.is).1 in
    answer-read (Nodes.conditional-made _ _ _ _ o x a b c.if-width-other.false) refl

pub read_expr-returns-then-end-at : goal.read_expr-returns-then-end-at
read_expr-returns-then-end-at t c =
    answer-refused (Nodes.expr-end _ _ _ _ c.if-end-at.true)

pub read_expr-returns-then-depth-eq0 : goal.read_expr-returns-then-depth-eq0
read_expr-returns-then-depth-eq0 t c =
    answer-refused (Nodes.expr-deep _ _ _ _ c.if-end-at.false c.if-depth-eq0.true)

pub read_expr-returns-then-declared-eq0 : goal.read_expr-returns-then-declared-eq0
read_expr-returns-then-declared-eq0 t c =
    answer-refused (Nodes.expr-no-kind _ _ _ _ c.if-end-at.false c.if-depth-eq0.false (Nodes.no-calls _ _ _ c.in-128.is c.if-declared-eq0.true))

pub read_expr-returns-in-2 : goal.read_expr-returns-in-2
unfolding map_of node Allowed
read_expr-returns-in-2 t c =
    c.read_variable.ensures ∙ sym (ap expr_answer (Nodes.expr-node _ _ _ _ c.if-end-at.false c.if-depth-eq0.false (map-kind _ _ _ a_variable tt c.in-2.is)))

pub read_expr-returns-in-12 : goal.read_expr-returns-in-12
unfolding map_of node Allowed
read_expr-returns-in-12 t c =
    c.read_constant.ensures ∙ sym (ap expr_answer (Nodes.expr-node _ _ _ _ c.if-end-at.false c.if-depth-eq0.false (map-kind _ _ _ a_constant tt c.in-12.is)))

pub read_expr-returns-in-4 : goal.read_expr-returns-in-4
unfolding map_of node Allowed
read_expr-returns-in-4 t c =
    c.read_unknown.ensures ∙ sym (ap expr_answer (Nodes.expr-node _ _ _ _ c.if-end-at.false c.if-depth-eq0.false (map-kind _ _ _ an_unknown tt c.in-4.is)))

pub read_expr-returns-in-17 : goal.read_expr-returns-in-17
unfolding map_of Allowed
read_expr-returns-in-17 t c =
    c.read_unary.ensures ∙ sym (ap expr_answer (Nodes.expr-node _ _ _ _ c.if-end-at.false c.if-depth-eq0.false (map-kind _ _ _ a_unary tt c.in-17.is)))

pub read_expr-returns-in-49 : goal.read_expr-returns-in-49
unfolding map_of Allowed
read_expr-returns-in-49 t c =
    c.read_binary.ensures ∙ sym (ap expr_answer (Nodes.expr-node _ _ _ _ c.if-end-at.false c.if-depth-eq0.false (map-kind _ _ _ a_binary tt c.in-49.is)))

pub read_expr-returns-in-113 : goal.read_expr-returns-in-113
unfolding map_of Allowed
read_expr-returns-in-113 t c =
    c.read_conditional.ensures ∙ sym (ap expr_answer (Nodes.expr-node _ _ _ _ c.if-end-at.false c.if-depth-eq0.false (map-kind _ _ _ a_conditional tt c.in-113.is)))

pub read_expr-returns-else-declared-eq0 : goal.read_expr-returns-else-declared-eq0
unfolding map_of Allowed
read_expr-returns-else-declared-eq0 t c =
    c.read_call.ensures ∙ sym (ap expr_answer (Nodes.expr-node _ _ _ _ c.if-end-at.false c.if-depth-eq0.false (map-kind _ _ _ a_call (positive c.if-declared-eq0.false) c.in-128.is)))

pub read_expr-returns-in_default : goal.read_expr-returns-in_default
read_expr-returns-in_default t c =
    let r = c.in_default.in_default-own.rest in
    answer-refused (Nodes.expr-no-kind _ _ _ _ c.if-end-at.false c.if-depth-eq0.false (Nodes.other-map _ _ _ r.0.0.0.0.0.0.1 r.0.0.0.0.0.1 r.0.0.0.0.1 r.0.0.0.1 r.0.0.1 r.0.1 r.1))

pub read_unary-returns-in-Refused : goal.read_unary-returns-in-Refused
read_unary-returns-in-Refused t c =
    answer-refused (Nodes.unary-operator _ _ _ _ (byte-refused c.read_within-read.ensures c.in-Refused.is))

pub read_unary-returns-in_default : goal.read_unary-returns-in_default
read_unary-returns-in_default t c =
    let o = byte-read c.read_within-read.ensures c.in-Byte.is in
    let told = c.in_default.is in
    told ∙ answer-refused (Nodes.unary-operand _ _ _ _ o (expr-refused c.read_expr-a.ensures told))

pub read_unary-returns : goal.read_unary-returns
read_unary-returns t c =
    let o = byte-read c.read_within-read.ensures c.in-Byte.is in
    let a = (expr-read c.read_expr-a.ensures c.in-Read.is).1 in
    answer-read (Nodes.unary-made _ _ _ _ o a) c.unary_width.ensures
