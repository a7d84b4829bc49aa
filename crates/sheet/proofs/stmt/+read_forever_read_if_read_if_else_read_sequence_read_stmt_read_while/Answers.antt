-- `sheet::stmt::read_stmt` and the functions that read its forms meet their contracts: each way through the code is a
-- law of proofs/Forms, and a size fits since a statement has fewer instructions than bytes. The measure is twice the
-- levels left, and one more in a form. Assumes nothing.
use mathlib.Core.Path.{refl, sym, ap, ◌∙◌}
use Prim.Native.Nat.{ℕ, ◌+◌}
use native.Mathlib.Omega.{arith}
use Rattle.sheet.specs.Statement.{size, form, an_empty, a_sequence, an_if, an_if_else, a_while, a_forever, a_wait}
use Rattle.sheet.specs.Answers.{stmt_answer}
use Rattle.sheet.proofs.Answers.{expr-read, expr-refused, stmt-read, stmt-refused, answer-stmt, answer-stmt-refused}
use Rattle.sheet.proofs.Nodes.{located-kept}
use Rattle.sheet.proofs.Forms
use Rattle.sheet.proofs.stmt.+read_forever_read_if_read_if_else_read_sequence_read_stmt_read_while.Goals as goal

pub read_forever-returns-in_default : goal.read_forever-returns-in_default
read_forever-returns-in_default t c =
    let told = c.in_default.is in
    told ∙ answer-stmt-refused (Forms.forever-body _ _ _ _ _ (stmt-refused c.read_stmt-a.ensures told))

pub read_forever-overflow_add-result : goal.read_forever-overflow_add-result
read_forever-overflow_add-result t c =
    let a = stmt-read c.read_stmt-a.ensures c.in-Read.is in
    let x = Forms.read-ended _ _ _ _ a.read in
    omega arith

pub read_forever-returns : goal.read_forever-returns
unfolding size
read_forever-returns t c =
    let a = stmt-read c.read_stmt-a.ensures c.in-Read.is in
    answer-stmt (Forms.forever-made _ _ _ _ _ a.read) (ap (λ (z : ℕ). z + 1) a.size_is)

pub read_if-returns-in-Refused : goal.read_if-returns-in-Refused
read_if-returns-in-Refused t c =
    answer-stmt-refused (Forms.if-test _ _ _ _ _ (expr-refused (c.located-e.ensures _ _) c.in-Refused.is))

pub read_if-returns-in_default : goal.read_if-returns-in_default
read_if-returns-in_default t c =
    let e = (expr-read (c.located-e.ensures c.args.inputs c.args.registers) c.in-Read.is).1 in
    let told = c.in_default.is in
    told ∙ answer-stmt-refused (Forms.if-body _ _ _ _ _ e (stmt-refused c.read_stmt-a.ensures told))

pub read_if-overflow_add-result : goal.read_if-overflow_add-result
read_if-overflow_add-result t c =
    let a = stmt-read c.read_stmt-a.ensures c.in-Read-a.is in
    let x = Forms.read-ended _ _ _ _ a.read in
    omega arith

pub read_if-returns : goal.read_if-returns
unfolding size
read_if-returns t c =
    let e = (expr-read (c.located-e.ensures c.args.inputs c.args.registers) c.in-Read.is).1 in
    let a = stmt-read c.read_stmt-a.ensures c.in-Read-a.is in
    answer-stmt (Forms.if-made _ _ _ _ _ e a.read) (ap (λ (z : ℕ). z + 1) a.size_is)

pub read_if_else-returns-in-Refused : goal.read_if_else-returns-in-Refused
read_if_else-returns-in-Refused t c =
    answer-stmt-refused (Forms.else-test _ _ _ _ _ (expr-refused (c.located-e.ensures _ _) c.in-Refused.is))

pub read_if_else-returns-in_default : goal.read_if_else-returns-in_default
read_if_else-returns-in_default t c =
    let e = (expr-read (c.located-e.ensures c.args.inputs c.args.registers) c.in-Read.is).1 in
    let told = c.in_default.is in
    told ∙ answer-stmt-refused (Forms.else-first _ _ _ _ _ e (stmt-refused c.read_stmt-a.ensures told))

pub read_if_else-returns-in_default-b : goal.read_if_else-returns-in_default-b
read_if_else-returns-in_default-b t c =
    let e = (expr-read (c.located-e.ensures c.args.inputs c.args.registers) c.in-Read.is).1 in
    let a = stmt-read c.read_stmt-a.ensures c.in-Read-a.is in
    let told = c.in_default-b.is in
    told ∙ answer-stmt-refused (Forms.else-second _ _ _ _ _ e a.read (stmt-refused c.read_stmt-b.ensures told))

pub read_if_else-overflow_add-result : goal.read_if_else-overflow_add-result
read_if_else-overflow_add-result t c =
    let a = stmt-read c.read_stmt-a.ensures c.in-Read-a.is in
    let b = stmt-read c.read_stmt-b.ensures c.in-Read-b.is in
    let x = Forms.read-ended _ _ _ _ a.read in
    let y = Forms.read-ended _ _ _ _ b.read in
    omega arith

pub read_if_else-overflow_add-result-2 : goal.read_if_else-overflow_add-result-2
read_if_else-overflow_add-result-2 t c =
    let a = stmt-read c.read_stmt-a.ensures c.in-Read-a.is in
    let b = stmt-read c.read_stmt-b.ensures c.in-Read-b.is in
    let x = Forms.read-ended _ _ _ _ a.read in
    let y = Forms.read-ended _ _ _ _ b.read in
    omega arith

pub read_if_else-returns : goal.read_if_else-returns
unfolding size
read_if_else-returns t c =
    let e = (expr-read (c.located-e.ensures c.args.inputs c.args.registers) c.in-Read.is).1 in
    let a = stmt-read c.read_stmt-a.ensures c.in-Read-a.is in
    let b = stmt-read c.read_stmt-b.ensures c.in-Read-b.is in
    answer-stmt (Forms.else-made _ _ _ _ _ e a.read b.read) (λ i. a.size_is i + b.size_is i + 2)

pub read_sequence-returns-in_default : goal.read_sequence-returns-in_default
read_sequence-returns-in_default t c =
    let told = c.in_default.is in
    told ∙ answer-stmt-refused (Forms.sequence-first _ _ _ _ _ (stmt-refused c.read_stmt-a.ensures told))

pub read_sequence-returns-in_default-b : goal.read_sequence-returns-in_default-b
read_sequence-returns-in_default-b t c =
    let a = stmt-read c.read_stmt-a.ensures c.in-Read.is in
    let told = c.in_default-b.is in
    told ∙ answer-stmt-refused (Forms.sequence-second _ _ _ _ _ a.read (stmt-refused c.read_stmt-b.ensures told))

pub read_sequence-overflow_add-result : goal.read_sequence-overflow_add-result
read_sequence-overflow_add-result t c =
    let a = stmt-read c.read_stmt-a.ensures c.in-Read.is in
    let b = stmt-read c.read_stmt-b.ensures c.in-Read-b.is in
    let x = Forms.read-ended _ _ _ _ a.read in
    let y = Forms.read-ended _ _ _ _ b.read in
    omega arith

pub read_sequence-returns : goal.read_sequence-returns
unfolding size
read_sequence-returns t c =
    let a = stmt-read c.read_stmt-a.ensures c.in-Read.is in
    let b = stmt-read c.read_stmt-b.ensures c.in-Read-b.is in
    answer-stmt (Forms.sequence-made _ _ _ _ _ a.read b.read) (λ i. a.size_is i + b.size_is i)

pub read_stmt-returns-then-end-at : goal.read_stmt-returns-then-end-at
read_stmt-returns-then-end-at t c =
    answer-stmt-refused (Forms.stmt-end _ _ _ _ _ c.if-end-at.true)

pub read_stmt-returns-then-depth-eq0 : goal.read_stmt-returns-then-depth-eq0
read_stmt-returns-then-depth-eq0 t c =
    answer-stmt-refused (Forms.stmt-deep _ _ _ _ _ c.if-end-at.false c.if-depth-eq0.true)

pub read_stmt-returns-in-0 : goal.read_stmt-returns-in-0
unfolding Forms.form_map form size
read_stmt-returns-in-0 t c =
    answer-stmt (Forms.stmt-form _ _ _ _ _ c.if-end-at.false c.if-depth-eq0.false (Forms.map-form _ _ an_empty c.in-0.is)) refl

pub read_stmt-returns-in-3 : goal.read_stmt-returns-in-3
read_stmt-returns-in-3 t c =
    c.read_assignment.ensures ∙ sym (Forms.stmt-assign _ _ _ _ _ _ c.if-end-at.false c.if-depth-eq0.false c.in-3.is)

pub read_stmt-returns-in-12 : goal.read_stmt-returns-in-12
unfolding Forms.form_map
read_stmt-returns-in-12 t c =
    c.read_sequence.ensures ∙ sym (ap stmt_answer (Forms.stmt-form _ _ _ _ _ c.if-end-at.false c.if-depth-eq0.false (Forms.map-form _ _ a_sequence c.in-12.is)))

pub read_stmt-returns-in-6 : goal.read_stmt-returns-in-6
unfolding Forms.form_map
read_stmt-returns-in-6 t c =
    c.read_if.ensures ∙ sym (ap stmt_answer (Forms.stmt-form _ _ _ _ _ c.if-end-at.false c.if-depth-eq0.false (Forms.map-form _ _ an_if c.in-6.is)))

pub read_stmt-returns-in-14 : goal.read_stmt-returns-in-14
unfolding Forms.form_map
read_stmt-returns-in-14 t c =
    c.read_if_else.ensures ∙ sym (ap stmt_answer (Forms.stmt-form _ _ _ _ _ c.if-end-at.false c.if-depth-eq0.false (Forms.map-form _ _ an_if_else c.in-14.is)))

pub read_stmt-returns-in-70 : goal.read_stmt-returns-in-70
unfolding Forms.form_map
read_stmt-returns-in-70 t c =
    c.read_while.ensures ∙ sym (ap stmt_answer (Forms.stmt-form _ _ _ _ _ c.if-end-at.false c.if-depth-eq0.false (Forms.map-form _ _ a_while c.in-70.is)))

pub read_stmt-returns-in-68 : goal.read_stmt-returns-in-68
unfolding Forms.form_map
read_stmt-returns-in-68 t c =
    c.read_forever.ensures ∙ sym (ap stmt_answer (Forms.stmt-form _ _ _ _ _ c.if-end-at.false c.if-depth-eq0.false (Forms.map-form _ _ a_forever c.in-68.is)))

pub read_stmt-returns-in-16 : goal.read_stmt-returns-in-16
unfolding Forms.form_map form
read_stmt-returns-in-16 t c =
    c.read_wait.ensures ∙ sym (ap stmt_answer (Forms.stmt-form _ _ _ _ _ c.if-end-at.false c.if-depth-eq0.false (Forms.map-form _ _ a_wait c.in-16.is)))

pub read_stmt-returns-in_default : goal.read_stmt-returns-in_default
read_stmt-returns-in_default t c =
    let r = c.in_default.in_default-own.rest in
    let n = Forms.no-form _ _ r.0.0.0.0.0.0.0.1 r.0.0.0.0.0.0.1 r.0.0.0.0.0.1 r.0.0.0.0.1 r.0.0.0.1 r.0.0.1 r.0.1 r.1 in
    answer-stmt-refused (Forms.stmt-no-form _ _ _ _ _ c.if-end-at.false c.if-depth-eq0.false n)

pub read_while-returns-in-Refused : goal.read_while-returns-in-Refused
read_while-returns-in-Refused t c =
    answer-stmt-refused (Forms.while-test _ _ _ _ _ (expr-refused (c.located-e.ensures _ _) c.in-Refused.is))

pub read_while-returns-in_default : goal.read_while-returns-in_default
read_while-returns-in_default t c =
    let e = (expr-read (c.located-e.ensures c.args.inputs c.args.registers) c.in-Read.is).1 in
    let told = c.in_default.is in
    told ∙ answer-stmt-refused (Forms.while-body _ _ _ _ _ e (stmt-refused c.read_stmt-a.ensures told))

pub read_while-overflow_add-result : goal.read_while-overflow_add-result
read_while-overflow_add-result t c =
    let a = stmt-read c.read_stmt-a.ensures c.in-Read-a.is in
    let x = Forms.read-ended _ _ _ _ a.read in
    let e = located-kept _ _ _ (expr-read (c.located-e.ensures c.args.inputs c.args.registers) c.in-Read.is).1 in
    omega arith

pub read_while-returns : goal.read_while-returns
unfolding size
read_while-returns t c =
    let e = (expr-read (c.located-e.ensures c.args.inputs c.args.registers) c.in-Read.is).1 in
    let a = stmt-read c.read_stmt-a.ensures c.in-Read-a.is in
    answer-stmt (Forms.while-made _ _ _ _ _ e a.read) (ap (λ (z : ℕ). z + 2) a.size_is)
