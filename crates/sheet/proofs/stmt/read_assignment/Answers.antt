-- `sheet::stmt::read_assignment` meets its contract: each way through the code is a law of proofs/Forms. Assumes nothing.
use mathlib.Core.Path.{refl, sym, ◌∙◌}
use Prim.Native.Nat.{◌+◌}
use native.Mathlib.Omega.{arith}
use Rattle.sheet.specs.Statement.{is_register, size}
use Rattle.sheet.proofs.Answers.{expr-read, expr-refused, answer-stmt, answer-stmt-refused}
use Rattle.sheet.proofs.Forms.{assign_end, assign_other, assign-expr, assign-apart, assign-made}
use Rattle.sheet.proofs.stmt.read_assignment.Goals as goal

pub returns-then-end-first : goal.returns-then-end-first
returns-then-end-first c =
    answer-stmt-refused (assign_end _ _ _ _ _ c.if-end-first.true)

pub returns-then-not-is_register : goal.returns-then-not-is_register
unfolding is_register
returns-then-not-is_register c =
    answer-stmt-refused (assign_other _ _ _ _ _ c.if-end-first.false (sym c.is_register.ensures ∙ c.if-not-is_register.true))

pub overflow_cast-target : goal.overflow_cast-target
overflow_cast-target c =
    omega (arith, c.shared_slice_known-3-1.given (c.args.at + 1))

pub returns-then-width-byte_at : goal.returns-then-width-byte_at
unfolding is_register
returns-then-width-byte_at c =
    let r = sym c.is_register.ensures ∙ c.if-not-is_register.false in
    let e = (expr-read (c.located.ensures c.args.inputs c.args.registers) c.in-Read.is).1 in
    answer-stmt-refused (assign-apart _ _ _ _ _ c.if-end-first.false r e (λ h. c.if-width-byte_at.true (h ∙ sym c.byte_at.ensures)))

pub returns-in-Refused : goal.returns-in-Refused
unfolding is_register
returns-in-Refused c =
    let r = sym c.is_register.ensures ∙ c.if-not-is_register.false in
    answer-stmt-refused (assign-expr _ _ _ _ _ c.if-end-first.false r (expr-refused (c.located.ensures _ _) c.in-Refused.is))

pub returns-else-width-byte_at : goal.returns-else-width-byte_at
unfolding is_register size
returns-else-width-byte_at c =
    let r = sym c.is_register.ensures ∙ c.if-not-is_register.false in
    let e = (expr-read (c.located.ensures c.args.inputs c.args.registers) c.in-Read.is).1 in
    answer-stmt (assign-made _ _ _ _ _ c.if-end-first.false r e (c.if-width-byte_at.false ∙ c.byte_at.ensures)) refl
