-- `sheet::functions::read_body` and the functions that read its forms meet their contracts: each way through the code is a
-- law of proofs/Bodies. The measure is twice the levels left, and one more in a form. Assumes nothing.
use mathlib.Core.Path.{sym, ap, ◌∙◌}
use Rattle.sheet.specs.Statement.{an_empty, an_assign, a_sequence, an_if, an_if_else}
use Rattle.sheet.specs.Functions.{body_form}
use Rattle.sheet.specs.Parts.{body_answer}
use Rattle.sheet.proofs.Forms.{form_map, map-form}
use Rattle.sheet.proofs.Bodies
use Rattle.sheet.proofs.Bodies.{body-read, body_refused, answer-body, answer-body-refused, tree-read, tree-refused}
use Rattle.sheet.proofs.functions.+read_body_read_body_if_read_body_if_else_read_turn.Goals as goal

pub read_body-returns-then-end-at : goal.read_body-returns-then-end-at
read_body-returns-then-end-at t c =
    answer-body-refused (Bodies.body_end _ _ _ _ c.if-end-at.true)

pub read_body-returns-then-depth-eq0 : goal.read_body-returns-then-depth-eq0
read_body-returns-then-depth-eq0 t c =
    answer-body-refused (Bodies.body-deep _ _ _ _ c.if-end-at.false c.if-depth-eq0.true)

pub read_body-returns-in-0 : goal.read_body-returns-in-0
unfolding form_map body_form
read_body-returns-in-0 t c =
    answer-body (Bodies.body-form _ _ _ _ c.if-end-at.false c.if-depth-eq0.false (map-form _ _ an_empty c.in-0.is))

pub read_body-returns-in-3 : goal.read_body-returns-in-3
unfolding form_map body_form
read_body-returns-in-3 t c =
    c.read_result.ensures ∙ sym (ap body_answer (Bodies.body-form _ _ _ _ c.if-end-at.false c.if-depth-eq0.false (map-form _ _ an_assign c.in-3.is)))

pub read_body-returns-in-12 : goal.read_body-returns-in-12
unfolding form_map
read_body-returns-in-12 t c =
    c.read_turn.ensures ∙ sym (ap body_answer (Bodies.body-form _ _ _ _ c.if-end-at.false c.if-depth-eq0.false (map-form _ _ a_sequence c.in-12.is)))

pub read_body-returns-in-6 : goal.read_body-returns-in-6
unfolding form_map
read_body-returns-in-6 t c =
    c.read_body_if.ensures ∙ sym (ap body_answer (Bodies.body-form _ _ _ _ c.if-end-at.false c.if-depth-eq0.false (map-form _ _ an_if c.in-6.is)))

pub read_body-returns-in-14 : goal.read_body-returns-in-14
unfolding form_map
read_body-returns-in-14 t c =
    c.read_body_if_else.ensures ∙ sym (ap body_answer (Bodies.body-form _ _ _ _ c.if-end-at.false c.if-depth-eq0.false (map-form _ _ an_if_else c.in-14.is)))

pub read_body-returns-in-35 : goal.read_body-returns-in-35
read_body-returns-in-35 t c =
    answer-body-refused (Bodies.body-barred _ _ _ _ c.if-end-at.false c.if-depth-eq0.false c.in-35.is)

pub read_body-returns-in_default : goal.read_body-returns-in_default
read_body-returns-in_default t c =
    let r = c.in_default.in_default-own.rest in
    answer-body-refused (Bodies.body-no-form _ _ _ _ c.if-end-at.false c.if-depth-eq0.false (Bodies.no-body-form _ _ r.0.0.0.0.0.1 r.0.0.0.0.1 r.0.0.0.1 r.0.0.1 r.0.1 r.1))

pub read_body_if-returns-in-Refused : goal.read_body_if-returns-in-Refused
read_body_if-returns-in-Refused t c =
    answer-body-refused (Bodies.if-test _ _ _ _ (tree-refused _ _ _ (c.located-e.ensures _ _) c.in-Refused.is))

pub read_body_if-returns : goal.read_body_if-returns
read_body_if-returns t c =
    let e = (tree-read _ _ _ (c.located-e.ensures c.args.inputs 1) c.in-Read.is).1 in
    c.read_body.ensures ∙ Bodies.if-made _ _ _ _ e

pub read_body_if_else-returns-in-Refused : goal.read_body_if_else-returns-in-Refused
read_body_if_else-returns-in-Refused t c =
    answer-body-refused (Bodies.else-test _ _ _ _ (tree-refused _ _ _ (c.located-e.ensures _ _) c.in-Refused.is))

pub read_body_if_else-returns-in_default : goal.read_body_if_else-returns-in_default
read_body_if_else-returns-in_default t c =
    let e = (tree-read _ _ _ (c.located-e.ensures c.args.inputs 1) c.in-Read.is).1 in
    let told = c.in_default.is in
    told ∙ answer-body-refused (Bodies.else-first _ _ _ _ e (body_refused c.read_body-a.ensures told))

pub read_body_if_else-returns : goal.read_body_if_else-returns
read_body_if_else-returns t c =
    let e = (tree-read _ _ _ (c.located-e.ensures c.args.inputs 1) c.in-Read.is).1 in
    let a = body-read c.read_body-a.ensures c.in-At.is in
    c.read_body.ensures ∙ Bodies.else-made _ _ _ _ e a.1

pub read_turn-returns-in_default : goal.read_turn-returns-in_default
read_turn-returns-in_default t c =
    let told = c.in_default.is in
    told ∙ answer-body-refused (Bodies.turn-first _ _ _ _ (body_refused c.read_body-a.ensures told))

pub read_turn-returns : goal.read_turn-returns
read_turn-returns t c =
    let a = body-read c.read_body-a.ensures c.in-At.is in
    c.read_body.ensures ∙ Bodies.turn-made _ _ _ _ a.1
