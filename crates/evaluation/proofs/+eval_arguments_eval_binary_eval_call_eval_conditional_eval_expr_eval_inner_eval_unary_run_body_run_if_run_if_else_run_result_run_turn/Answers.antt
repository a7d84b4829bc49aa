-- An expression in a sheet is evaluated, and a body is run, by functions that call each other; each meets its contract.
-- The measure goes by the number of the functions that may be called, then by the depth: a call runs a body that calls earlier functions only, and
-- an expression of depth d hands its operands on at depth d - 1. Assumes nothing.
use mathlib.Core.Path.{refl, sym, ◌∙◌}
use Rattle.evaluation.specs.Bytes.{unary_node, binary_node, conditional_node, inner_node, node_at, form_at}
use Rattle.evaluation.proofs.Bytes.{inner_node-none, node_at-inner, form_at-other, work_at-stop, work_at-node, run_at-stop, run_at-form}
use Rattle.evaluation.proofs.Bytes.{arguments-done, arguments-more, call-made, call-answer, call-stop}
use Rattle.evaluation.proofs.Bytes.{result-made, turn-made, if-taken, if-left, else-taken, else-left}
use Rattle.evaluation.proofs.+eval_arguments_eval_binary_eval_call_eval_conditional_eval_expr_eval_inner_eval_unary_run_body_run_if_run_if_else_run_result_run_turn.Goals as goal

pub eval_arguments-returns-then-count-k : goal.eval_arguments-returns-then-count-k
eval_arguments-returns-then-count-k t c =
    arguments-done _ _ _ _ c.if-count-k.true

pub eval_arguments-returns : goal.eval_arguments-returns
eval_arguments-returns t c =
    rw (c.eval_arguments.ensures, c.put.ensures, c.store.ensures)
    (arguments-more _ _ _ _ c.if-count-k.false c.eval_expr-e.ensures)

pub eval_binary-returns : goal.eval_binary-returns
unfolding binary_node
eval_binary-returns t c =
    rw (c.binary_width.ensures, c.binary.ensures, c.eval_expr-b.ensures, c.eval_expr-a.ensures)

pub eval_call-returns-then-names-n : goal.eval_call-returns-then-names-n
eval_call-returns-then-names-n t c =
    c.nothing.ensures ∙ call-stop _ _ _ _ _ _ c.definition_at-place.ensures c.then-names-n.either

pub eval_call-returns : goal.eval_call-returns
eval_call-returns t c =
    call-answer _ _ _ _ _ _ c.definition_at-place.ensures c.if-names-n.false c.if-sheet-place.false
    (call-made _ _ _ _ _ _ c.byte_at-count.ensures c.byte_at-width.ensures c.eval_arguments-passed.ensures c.all_unknown.ensures
    c.store.ensures c.put-start.ensures c.run_body-ran.ensures c.value_at.ensures)

pub eval_conditional-returns : goal.eval_conditional-returns
unfolding conditional_node
eval_conditional-returns t c =
    rw (c.choice.ensures, c.eval_expr-b.ensures, c.eval_expr-a.ensures, c.eval_expr-c.ensures)

pub eval_expr-returns-then-depth-eq0 : goal.eval_expr-returns-then-depth-eq0
eval_expr-returns-then-depth-eq0 t c =
    c.nothing.ensures ∙ sym (work_at-stop _ _ _ _ _ _ c.then-depth-eq0.either)

pub eval_expr-returns-in-2 : goal.eval_expr-returns-in-2
unfolding node_at
eval_expr-returns-in-2 t c =
    let deep = c.if-depth-eq0.false in
    let map = c.in-2.is in
    rw (c.eval_variable.ensures, c.byte_at-field.ensures) (sym (work_at-node _ _ _ _ _ _ deep map))

pub eval_expr-returns-in-12 : goal.eval_expr-returns-in-12
unfolding node_at
eval_expr-returns-in-12 t c =
    let deep = c.if-depth-eq0.false in
    rw (c.known.ensures, c.word_at.ensures, c.byte_at-field.ensures)
    (sym (work_at-node _ _ _ _ _ _ deep c.in-12.is))

pub eval_expr-returns-in_default : goal.eval_expr-returns-in_default
eval_expr-returns-in_default t c =
    let deep = c.if-depth-eq0.false in
    let r = c.in_default.in_default-own.rest in
    rw (c.eval_inner.ensures, c.byte_at-field.ensures)
    (sym (work_at-node _ _ _ _ _ _ deep refl ∙ node_at-inner _ _ _ _ _ _ _ r.0.1 r.1))

pub eval_inner-returns-in-4 : goal.eval_inner-returns-in-4
unfolding inner_node
eval_inner-returns-in-4 t c =
    rw (c.all_unknown.ensures, c.in-4.is)

pub eval_inner-returns-in-17 : goal.eval_inner-returns-in-17
unfolding inner_node
eval_inner-returns-in-17 t c =
    rw c.in-17.is c.eval_unary.ensures

pub eval_inner-returns-in-49 : goal.eval_inner-returns-in-49
unfolding inner_node
eval_inner-returns-in-49 t c =
    rw c.in-49.is c.eval_binary.ensures

pub eval_inner-returns-in-113 : goal.eval_inner-returns-in-113
unfolding inner_node
eval_inner-returns-in-113 t c =
    rw c.in-113.is c.eval_conditional.ensures

pub eval_inner-returns-in-128 : goal.eval_inner-returns-in-128
unfolding inner_node
eval_inner-returns-in-128 t c =
    rw c.in-128.is c.eval_call.ensures

pub eval_inner-returns-in_default : goal.eval_inner-returns-in_default
eval_inner-returns-in_default t c =
    let r = c.in_default.in_default-own.rest in
    c.nothing.ensures ∙ sym (inner_node-none _ _ _ _ _ r.0.0.0.0.1 r.0.0.0.1 r.0.0.1 r.0.1 r.1)

pub eval_unary-returns : goal.eval_unary-returns
unfolding unary_node
eval_unary-returns t c =
    rw (c.unary_width.ensures, c.unary.ensures, c.eval_expr-a.ensures)

pub run_body-returns-then-depth-eq0 : goal.run_body-returns-then-depth-eq0
run_body-returns-then-depth-eq0 t c =
    run_at-stop _ _ _ _ _ _ _ c.then-depth-eq0.either

pub run_body-returns-in-3 : goal.run_body-returns-in-3
unfolding form_at
run_body-returns-in-3 t c =
    c.run_result.ensures ∙ sym (run_at-form _ _ _ _ _ _ _ c.if-depth-eq0.false c.if-sheet-at.false c.in-3.is)

pub run_body-returns-in-12 : goal.run_body-returns-in-12
unfolding form_at
run_body-returns-in-12 t c =
    c.run_turn.ensures ∙ sym (run_at-form _ _ _ _ _ _ _ c.if-depth-eq0.false c.if-sheet-at.false c.in-12.is)

pub run_body-returns-in-6 : goal.run_body-returns-in-6
unfolding form_at
run_body-returns-in-6 t c =
    c.run_if.ensures ∙ sym (run_at-form _ _ _ _ _ _ _ c.if-depth-eq0.false c.if-sheet-at.false c.in-6.is)

pub run_body-returns-in-14 : goal.run_body-returns-in-14
unfolding form_at
run_body-returns-in-14 t c =
    c.run_if_else.ensures ∙ sym (run_at-form _ _ _ _ _ _ _ c.if-depth-eq0.false c.if-sheet-at.false c.in-14.is)

pub run_body-returns-in_default : goal.run_body-returns-in_default
run_body-returns-in_default t c =
    let r = c.in_default.in_default-own.rest in
    sym (run_at-form _ _ _ _ _ _ _ c.if-depth-eq0.false c.if-sheet-at.false refl
    ∙ form_at-other _ _ _ _ _ _ _ r.0.0.0.1 r.0.0.1 r.0.1 r.1)

pub run_if-returns-then-holds : goal.run_if-returns-then-holds
run_if-returns-then-holds t c =
    c.run_body.ensures ∙ if-taken _ _ _ _ _ c.eval_expr-e.ensures c.holds.ensures c.if-holds.true

pub run_if-returns : goal.run_if-returns
run_if-returns t c =
    rw c.skip_body.ensures (if-left _ _ _ _ _ c.eval_expr-e.ensures c.holds.ensures c.if-holds.false)

pub run_if_else-returns-then-holds : goal.run_if_else-returns-then-holds
run_if_else-returns-then-holds t c =
    rw c.skip_body.ensures
    (else-taken _ _ _ _ _ c.eval_expr-e.ensures c.holds.ensures c.if-holds.true c.run_body-a.ensures)

pub run_if_else-returns : goal.run_if_else-returns
run_if_else-returns t c =
    rw (c.run_body.ensures, c.skip_body-second.ensures)
    (else-left _ _ _ _ _ c.eval_expr-e.ensures c.holds.ensures c.if-holds.false)

pub run_result-returns : goal.run_result-returns
run_result-returns t c =
    rw (← c.byte_at-target.ensures)
    (result-made _ _ _ _ c.eval_expr-e.ensures c.store.ensures c.put.ensures)

pub run_turn-returns : goal.run_turn-returns
run_turn-returns t c =
    c.run_body.ensures ∙ turn-made _ _ _ c.run_body-a.ensures
