-- `sheet::functions::read_result` meets its contract: each way through the code is a law of proofs/Bodies. Assumes nothing.
use mathlib.Core.Path.{sym, ◌∙◌}
use Prim.Native.Nat.{◌+◌}
use native.Mathlib.Omega.{arith}
use Rattle.sheet.specs.Statement.{is_register}
use Rattle.sheet.proofs.Bodies.{tree-read, tree-refused, answer-body, answer-body-refused, result-end, result-other, result-expr, result-apart, result-made}
use Rattle.sheet.proofs.functions.read_result.Goals as goal

pub returns-then-end-first : goal.returns-then-end-first
returns-then-end-first c =
    answer-body-refused (result-end _ _ _ _ c.if-end-first.true)

pub returns-then-not-is_register : goal.returns-then-not-is_register
unfolding is_register
returns-then-not-is_register c =
    answer-body-refused (result-other _ _ _ _ c.if-end-first.false (sym c.is_register.ensures ∙ c.if-not-is_register.true))

pub overflow_cast-target : goal.overflow_cast-target
overflow_cast-target c =
    omega (arith, c.shared_slice_known-3-1.given (c.args.at + 1))

pub returns-then-width-byte_at : goal.returns-then-width-byte_at
unfolding is_register
returns-then-width-byte_at c =
    let r = sym c.is_register.ensures ∙ c.if-not-is_register.false in
    let e = (tree-read _ _ _ (c.located.ensures c.args.inputs 1) c.in-Read.is).1 in
    answer-body-refused (result-apart _ _ _ _ c.if-end-first.false r e (λ h. c.if-width-byte_at.true (h ∙ sym c.byte_at.ensures)))

pub returns-in-Refused : goal.returns-in-Refused
unfolding is_register
returns-in-Refused c =
    let r = sym c.is_register.ensures ∙ c.if-not-is_register.false in
    answer-body-refused (result-expr _ _ _ _ c.if-end-first.false r (tree-refused _ _ _ (c.located.ensures _ _) c.in-Refused.is))

pub returns-else-width-byte_at : goal.returns-else-width-byte_at
unfolding is_register
returns-else-width-byte_at c =
    let r = sym c.is_register.ensures ∙ c.if-not-is_register.false in
    let e = (tree-read _ _ _ (c.located.ensures c.args.inputs 1) c.in-Read.is).1 in
    answer-body (result-made _ _ _ _ c.if-end-first.false r e (c.if-width-byte_at.false ∙ c.byte_at.ensures))
