-- A statement of a body fills the table as its definition says, form by form; what is left of the depth falls. Assumes nothing.
use mathlib.Core.Path.{sym, ◌∙◌}
use Rattle.sheet.specs.Statement.{an_empty, an_assign, a_sequence, an_if, an_if_else}
use Rattle.sheet.proofs.Statements.{form_map}
use Rattle.bodies.specs.Filling.{fill_form}
use Rattle.bodies.proofs.Filling.{fill-stop, fill-form, fill-other, in-turn-path, if-path, if-else-path}
use Rattle.bodies.proofs.+fill_body_fill_if_fill_if_else_fill_in_turn.Goals as goal

pub fill_body-returns-then-depth-eq0 : goal.fill_body-returns-then-depth-eq0
fill_body-returns-then-depth-eq0 t c =
    sym (fill-stop _ _ _ _ c.then-depth-eq0.either)

pub fill_body-returns-in-0 : goal.fill_body-returns-in-0
unfolding fill_form form_map
fill_body-returns-in-0 t c =
    sym (fill-form _ _ _ _ an_empty c.if-depth-eq0.false c.if-at-ge8192.false c.if-place-ge4096.false
    (sym c.byte_at.ensures ∙ c.in-0.is))

pub fill_body-returns-in-3 : goal.fill_body-returns-in-3
unfolding fill_form form_map
fill_body-returns-in-3 t c =
    c.fill_result.ensures ∙ sym (fill-form _ _ _ _ an_assign c.if-depth-eq0.false c.if-at-ge8192.false c.if-place-ge4096.false
    (sym c.byte_at.ensures ∙ c.in-3.is))

pub fill_body-returns-in-12 : goal.fill_body-returns-in-12
unfolding fill_form form_map
fill_body-returns-in-12 t c =
    c.fill_in_turn.ensures ∙ sym (fill-form _ _ _ _ a_sequence c.if-depth-eq0.false c.if-at-ge8192.false c.if-place-ge4096.false
    (sym c.byte_at.ensures ∙ c.in-12.is))

pub fill_body-returns-in-6 : goal.fill_body-returns-in-6
unfolding fill_form form_map
fill_body-returns-in-6 t c =
    c.fill_if.ensures ∙ sym (fill-form _ _ _ _ an_if c.if-depth-eq0.false c.if-at-ge8192.false c.if-place-ge4096.false
    (sym c.byte_at.ensures ∙ c.in-6.is))

pub fill_body-returns-in-14 : goal.fill_body-returns-in-14
unfolding fill_form form_map
fill_body-returns-in-14 t c =
    c.fill_if_else.ensures ∙ sym (fill-form _ _ _ _ an_if_else c.if-depth-eq0.false c.if-at-ge8192.false c.if-place-ge4096.false
    (sym c.byte_at.ensures ∙ c.in-14.is))

pub fill_body-returns-in_default : goal.fill_body-returns-in_default
fill_body-returns-in_default t c =
    let r = c.in_default.in_default-own.rest in
    sym
    (fill-other _ _ _ _ c.if-depth-eq0.false c.if-at-ge8192.false c.if-place-ge4096.false
    (λ e. r.0.0.0.0.1 (c.byte_at.ensures ∙ e)) (λ e. r.0.0.0.1 (c.byte_at.ensures ∙ e))
    (λ e. r.0.0.1 (c.byte_at.ensures ∙ e)) (λ e. r.0.1 (c.byte_at.ensures ∙ e))
    (λ e. r.1 (c.byte_at.ensures ∙ e)))

pub fill_if-returns : goal.fill_if-returns
fill_if-returns t c =
    if-path _ _ _ _ _ c.skip_expr-inside.ensures c.after-first.ensures c.fill_body-a.ensures
    c.store.ensures

pub fill_if_else-returns : goal.fill_if_else-returns
fill_if_else-returns t c =
    if-else-path _ _ _ _ _ c.skip_expr-inside.ensures c.after-first.ensures c.fill_body-a.ensures
    c.after-second.ensures c.fill_body-b.ensures c.store.ensures c.store-2.ensures

pub fill_in_turn-returns : goal.fill_in_turn-returns
fill_in_turn-returns t c =
    in-turn-path _ _ _ _ _ c.fill_body-a.ensures c.fill_body.ensures
