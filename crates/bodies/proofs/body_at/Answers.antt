-- Where a function's body begins, by cases on the sheet's limit. Assumes nothing.
use mathlib.Core.Path.{sym, ap, ◌∙◌}
use Prim.Native.Nat.{ℕ, ◌+◌}
use Rattle.bodies.proofs.Laying.{body_at-in, body_at-out}
use Rattle.bodies.proofs.body_at.Goals as goal

pub returns-then-definition-lt8192 : goal.returns-then-definition-lt8192
returns-then-definition-lt8192 c =
    let a = c.args in
    ap (λ (k : ℕ). a.definition + 2 + k) c.byte_at.ensures ∙ sym (body_at-in a.sheet.now a.definition c.if-definition-lt8192.true)

pub returns-else-definition-lt8192 : goal.returns-else-definition-lt8192
returns-else-definition-lt8192 c =
    sym (body_at-out _ _ c.if-definition-lt8192.false)
