-- A statement fills the table as its definition says, form by form; what is left of the depth falls.
use Prim.Native.Nat.{ℕ}
use Prim.Native.Nat.{◌+◌, ◌*◌}
use mathlib.Core.Path.{sym, ap, ◌∙◌}
use Rattle.sheet.specs.Statement.{an_empty, an_assign, a_later, a_sequence, an_if, an_if_else, a_while, a_forever, a_wait, form_of}
use Rattle.sheet.proofs.Statements.{form_map}
use Rattle.pseudocode.specs.Filling.{filling, emit, set_kind, later_kind, wait_kind, fill_assign, fill_form}
use Rattle.pseudocode.proofs.Filling.{no-form, fill-stop, fill-form, fill-other, sequence-path, if-path, if-else-path, while-path, forever-path}
use Rattle.pseudocode.proofs.+fill_forever_fill_if_fill_if_else_fill_sequence_fill_stmt_fill_while.Goals as goal

pub fill_forever-returns : goal.fill_forever-returns
unfolding emit
fill_forever-returns t c =
    forever-path _ _ _ _ _ _ c.fill_stmt-a.ensures c.emit.ensures

pub fill_if-returns : goal.fill_if-returns
fill_if-returns t c =
    if-path _ _ _ _ _ _ c.skip_expr-inside.ensures c.after-first.ensures c.fill_stmt-a.ensures
    c.store.ensures

pub fill_if_else-returns : goal.fill_if_else-returns
fill_if_else-returns t c =
    if-else-path _ _ _ _ _ _ c.skip_expr-inside.ensures c.after-first.ensures c.fill_stmt-a.ensures
    c.after-second.ensures c.fill_stmt-b.ensures c.store.ensures c.store-2.ensures

pub fill_sequence-returns : goal.fill_sequence-returns
fill_sequence-returns t c =
    sequence-path _ _ _ _ _ _ c.fill_stmt-a.ensures c.fill_stmt.ensures

pub fill_stmt-returns-then-depth-eq0 : goal.fill_stmt-returns-then-depth-eq0
fill_stmt-returns-then-depth-eq0 t c =
    sym (fill-stop _ _ _ _ _ c.then-depth-eq0.either)

pub fill_stmt-returns-in-0 : goal.fill_stmt-returns-in-0
unfolding fill_form form_map
fill_stmt-returns-in-0 t c =
    sym
    (fill-form _ _ _ _ _ an_empty c.if-depth-eq0.false c.if-at-ge8192.false c.if-place-ge256.false
    (sym c.byte_at-map.ensures ∙ c.in-0.is))

pub fill_stmt-returns-in-3 : goal.fill_stmt-returns-in-3
unfolding fill_form form_map fill_assign emit
fill_stmt-returns-in-3 t c =
    let a = c.args in
    let f = filling a.at a.place a.code.now in
    c.fill_assign.ensures
    ∙ ap (λ (g : ℕ). fill_assign a.sheet.now a.definitions.now a.thread set_kind g (a.at + 2) f) c.byte_at-field.ensures
    ∙ sym
    (fill-form _ _ _ _ _ an_assign c.if-depth-eq0.false c.if-at-ge8192.false c.if-place-ge256.false
    (sym c.byte_at-map.ensures ∙ c.in-3.is))

pub fill_stmt-returns-in-35 : goal.fill_stmt-returns-in-35
unfolding fill_form form_map fill_assign emit
fill_stmt-returns-in-35 t c =
    let a = c.args in
    let f = filling a.at a.place a.code.now in
    c.fill_assign-in-35.ensures
    ∙ ap (λ (g : ℕ). fill_assign a.sheet.now a.definitions.now a.thread later_kind g (a.at + 2) f) c.byte_at-field.ensures
    ∙ sym
    (fill-form _ _ _ _ _ a_later c.if-depth-eq0.false c.if-at-ge8192.false c.if-place-ge256.false
    (sym c.byte_at-map.ensures ∙ c.in-35.is))

pub fill_stmt-returns-in-12 : goal.fill_stmt-returns-in-12
unfolding fill_form form_map
fill_stmt-returns-in-12 t c =
    c.fill_sequence.ensures ∙ sym
    (fill-form _ _ _ _ _ a_sequence c.if-depth-eq0.false c.if-at-ge8192.false c.if-place-ge256.false
    (sym c.byte_at-map.ensures ∙ c.in-12.is))

pub fill_stmt-returns-in-6 : goal.fill_stmt-returns-in-6
unfolding fill_form form_map
fill_stmt-returns-in-6 t c =
    c.fill_if.ensures ∙ sym
    (fill-form _ _ _ _ _ an_if c.if-depth-eq0.false c.if-at-ge8192.false c.if-place-ge256.false
    (sym c.byte_at-map.ensures ∙ c.in-6.is))

pub fill_stmt-returns-in-14 : goal.fill_stmt-returns-in-14
unfolding fill_form form_map
fill_stmt-returns-in-14 t c =
    c.fill_if_else.ensures ∙ sym
    (fill-form _ _ _ _ _ an_if_else c.if-depth-eq0.false c.if-at-ge8192.false c.if-place-ge256.false
    (sym c.byte_at-map.ensures ∙ c.in-14.is))

pub fill_stmt-returns-in-70 : goal.fill_stmt-returns-in-70
unfolding fill_form form_map
fill_stmt-returns-in-70 t c =
    c.fill_while.ensures ∙ sym
    (fill-form _ _ _ _ _ a_while c.if-depth-eq0.false c.if-at-ge8192.false c.if-place-ge256.false
    (sym c.byte_at-map.ensures ∙ c.in-70.is))

pub fill_stmt-returns-in-68 : goal.fill_stmt-returns-in-68
unfolding fill_form form_map
fill_stmt-returns-in-68 t c =
    c.fill_forever.ensures ∙ sym
    (fill-form _ _ _ _ _ a_forever c.if-depth-eq0.false c.if-at-ge8192.false c.if-place-ge256.false
    (sym c.byte_at-map.ensures ∙ c.in-68.is))

pub fill_stmt-returns-in-16 : goal.fill_stmt-returns-in-16
unfolding fill_form form_map emit
fill_stmt-returns-in-16 t c =
    let a = c.args in
    let f = filling a.at a.place a.code.now in
    c.emit.ensures
    ∙ ap (λ (g : ℕ). emit a.thread wait_kind (a.at + 1) 0 (a.at + 2 + 2 * g) f) c.byte_at-field.ensures
    ∙ sym
    (fill-form _ _ _ _ _ a_wait c.if-depth-eq0.false c.if-at-ge8192.false c.if-place-ge256.false
    (sym c.byte_at-map.ensures ∙ c.in-16.is))

pub fill_stmt-returns-in_default : goal.fill_stmt-returns-in_default
fill_stmt-returns-in_default t c =
    let at = c.args.at in
    let r = c.in_default.in_default-own.rest in
    sym
    (fill-other _ _ _ _ _ c.if-depth-eq0.false c.if-at-ge8192.false c.if-place-ge256.false
    (ap (λ (m : ℕ). form_of m at) (sym c.byte_at-map.ensures)
    ∙ no-form _ at r.0.0.0.0.0.0.0.0.1 r.0.0.0.0.0.0.0.1 r.0.0.0.0.0.0.1
    r.0.0.0.0.0.1 r.0.0.0.0.1 r.0.0.0.1 r.0.0.1 r.0.1 r.1))

pub fill_while-returns : goal.fill_while-returns
unfolding emit
fill_while-returns t c =
    while-path _ _ _ _ _ _ c.skip_expr-inside.ensures c.after-first.ensures c.fill_stmt-a.ensures
    c.emit-b.ensures c.store.ensures
