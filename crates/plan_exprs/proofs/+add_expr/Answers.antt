-- `plan_exprs::add_expr` meets its contract, node by node; what is left of the depth falls. Assumes nothing.
use mathlib.Core.Path.{refl, sym, ◌∙◌}
use Rattle.plan_exprs.proofs.Adding.{add_none, add-far, add-variable, add-constant, add-unknown, add-unary, add-binary, add-conditional}
use Rattle.plan_exprs.proofs.+add_expr.Goals as goal

pub returns-then-depth-eq0 : goal.returns-then-depth-eq0
returns-then-depth-eq0 t c =
    rw c.nothing.ensures (sym (add_none _ _ _ _ _ c.if-depth-eq0.true))

pub returns-then-at-ge8192 : goal.returns-then-at-ge8192
returns-then-at-ge8192 t c =
    rw c.nothing-then-at-ge8192.ensures (sym (add-far _ _ _ _ _ c.if-at-ge8192.true))

pub returns-in-2 : goal.returns-in-2
returns-in-2 t c =
    rw c.width.ensures
    (sym (add-variable _ _ _ _ _ _ c.if-depth-eq0.false c.if-at-ge8192.false (sym c.byte_at-field.ensures)
    (sym c.byte_at-map.ensures ∙ c.in-2.is)))

pub returns-in-12 : goal.returns-in-12
returns-in-12 t c =
    c.emit.ensures
    ∙ sym (add-constant _ _ _ _ _ _ c.if-depth-eq0.false c.if-at-ge8192.false (sym c.byte_at-field.ensures) _
    (sym c.byte_at-map.ensures ∙ c.in-12.is) (sym c.word_at.ensures))

pub returns-in-17 : goal.returns-in-17
returns-in-17 t c =
    c.emit-in-17.ensures
    ∙ rw c.unary_width.ensures
    (sym (add-unary _ _ _ _ _ _ c.if-depth-eq0.false c.if-at-ge8192.false (sym c.byte_at-field.ensures) _ _ c.add_expr-a.ensures
    (sym c.byte_at-map.ensures ∙ c.in-17.is)))

pub returns-in-49 : goal.returns-in-49
returns-in-49 t c =
    c.emit-in-49.ensures
    ∙ rw c.binary_width.ensures
    (sym (add-binary _ _ _ _ _ _ c.if-depth-eq0.false c.if-at-ge8192.false (sym c.byte_at-field.ensures) _ _ c.add_expr-a-in-49.ensures
    _ _ c.add_expr-b.ensures (sym c.byte_at-map.ensures ∙ c.in-49.is)))

pub returns-in-113 : goal.returns-in-113
returns-in-113 t c =
    c.emit-in-113.ensures
    ∙ sym (add-conditional _ _ _ _ _ _ c.if-depth-eq0.false c.if-at-ge8192.false refl _ _ c.add_expr-c.ensures
    _ _ c.add_expr-a-in-113.ensures _ _ c.add_expr-b-in-113.ensures (sym c.byte_at-map.ensures ∙ c.in-113.is))

pub returns-in_default : goal.returns-in_default
returns-in_default t c =
    let r = c.in_default.in_default-own.rest in
    c.emit-in_default.ensures
    ∙ sym (add-unknown _ _ _ _ _ _ c.if-depth-eq0.false c.if-at-ge8192.false (sym c.byte_at-field.ensures) _ (sym c.byte_at-map.ensures)
    r.0.0.0.0.1 r.0.0.0.1 r.0.0.1 r.0.1 r.1)
