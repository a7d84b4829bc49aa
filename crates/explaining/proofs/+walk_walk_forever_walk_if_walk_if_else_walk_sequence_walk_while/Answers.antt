-- A statement is walked over as its definition says, form by form; what is left of the depth falls. Assumes nothing.
use Prim.Native.Nat.{ℕ}
use mathlib.Core.Path.{sym, ap, ◌∙◌}
use native.Mathlib.Omega.{arith}
use borrow.Author.Rules.{rules}
use Rattle.sheet.specs.Statement.{an_empty, an_assign, a_later, a_sequence, an_if, an_if_else, a_while, a_forever, a_wait, form_of}
use Rattle.sheet.proofs.Statements.{form_map}
use Rattle.pseudocode.proofs.Filling.{no-form}
use Rattle.writing.specs.Ascii.{ascii}
use Rattle.explaining.specs.Walking.{inside, form_at}
use Rattle.explaining.proofs.Printing.{deeper-most}
use Rattle.explaining.proofs.Walking.{sequence-path, forever-once, forever-again, if-path, if-else-path, while-once, while-again}
use Rattle.explaining.proofs.Walking.{stmt-deep, stmt-far, stmt-form, stmt-other}
use Rattle.explaining.proofs.+walk_walk_forever_walk_if_walk_if_else_walk_sequence_walk_while.Goals as goal

pub walk-returns-then-depth-eq0 : goal.walk-returns-then-depth-eq0
walk-returns-then-depth-eq0 t c =
    sym (stmt-deep _ _ _ _ _ _ _ c.if-depth-eq0.true)

pub walk-returns-then-at-ge8192 : goal.walk-returns-then-at-ge8192
walk-returns-then-at-ge8192 t c =
    sym (stmt-far _ _ _ _ _ _ _ c.if-at-ge8192.true)

pub walk-returns-in-0 : goal.walk-returns-in-0
unfolding form_at inside form_map
walk-returns-in-0 t c =
    sym (stmt-form _ _ _ _ _ _ _ an_empty c.if-depth-eq0.false c.if-at-ge8192.false (sym c.byte_at-map.ensures ∙ c.in-0.is))

pub walk-returns-in-3 : goal.walk-returns-in-3
unfolding form_at inside form_map ascii
walk-returns-in-3 t c =
    c.walk_assign.ensures ∙ sym (stmt-form _ _ _ _ _ _ _ an_assign c.if-depth-eq0.false c.if-at-ge8192.false (sym c.byte_at-map.ensures ∙ c.in-3.is))

pub walk-returns-in-35 : goal.walk-returns-in-35
unfolding form_at inside form_map ascii
walk-returns-in-35 t c =
    c.walk_assign-in-35.ensures ∙ sym (stmt-form _ _ _ _ _ _ _ a_later c.if-depth-eq0.false c.if-at-ge8192.false (sym c.byte_at-map.ensures ∙ c.in-35.is))

pub walk-returns-in-12 : goal.walk-returns-in-12
unfolding form_at inside form_map
walk-returns-in-12 t c =
    c.walk_sequence.ensures ∙ sym (stmt-form _ _ _ _ _ _ _ a_sequence c.if-depth-eq0.false c.if-at-ge8192.false (sym c.byte_at-map.ensures ∙ c.in-12.is))

pub walk-returns-in-6 : goal.walk-returns-in-6
unfolding form_at inside form_map
walk-returns-in-6 t c =
    c.walk_if.ensures ∙ sym (stmt-form _ _ _ _ _ _ _ an_if c.if-depth-eq0.false c.if-at-ge8192.false (sym c.byte_at-map.ensures ∙ c.in-6.is))

pub walk-returns-in-14 : goal.walk-returns-in-14
unfolding form_at inside form_map
walk-returns-in-14 t c =
    c.walk_if_else.ensures ∙ sym (stmt-form _ _ _ _ _ _ _ an_if_else c.if-depth-eq0.false c.if-at-ge8192.false (sym c.byte_at-map.ensures ∙ c.in-14.is))

pub walk-returns-in-70 : goal.walk-returns-in-70
unfolding form_at inside form_map
walk-returns-in-70 t c =
    c.walk_while.ensures ∙ sym (stmt-form _ _ _ _ _ _ _ a_while c.if-depth-eq0.false c.if-at-ge8192.false (sym c.byte_at-map.ensures ∙ c.in-70.is))

pub walk-returns-in-68 : goal.walk-returns-in-68
unfolding form_at inside form_map
walk-returns-in-68 t c =
    c.walk_forever.ensures ∙ sym (stmt-form _ _ _ _ _ _ _ a_forever c.if-depth-eq0.false c.if-at-ge8192.false (sym c.byte_at-map.ensures ∙ c.in-68.is))

pub walk-returns-in-16 : goal.walk-returns-in-16
unfolding form_at inside form_map
walk-returns-in-16 t c =
    c.walk_wait.ensures ∙ sym (stmt-form _ _ _ _ _ _ _ a_wait c.if-depth-eq0.false c.if-at-ge8192.false (sym c.byte_at-map.ensures ∙ c.in-16.is))

pub walk-returns-in_default : goal.walk-returns-in_default
walk-returns-in_default t c =
    let at = c.args.w.next in
    let r = c.in_default.in_default-own.rest in
    sym
    (stmt-other _ _ _ _ _ _ _ c.if-depth-eq0.false c.if-at-ge8192.false
    (ap (λ (m : ℕ). form_of m at) (sym c.byte_at-map.ensures)
    ∙ no-form _ at r.0.0.0.0.0.0.0.0.1 r.0.0.0.0.0.0.0.1 r.0.0.0.0.0.0.1
    r.0.0.0.0.0.1 r.0.0.0.0.1 r.0.0.0.1 r.0.0.1 r.0.1 r.1))

pub walk_forever-returns-then-only : goal.walk_forever-returns-then-only
walk_forever-returns-then-only t c =
    forever-again _ _ _ c.walk-a.ensures
    c.only.ensures c.if-only.true c.walk.ensures

pub walk_forever-returns : goal.walk_forever-returns
walk_forever-returns t c =
    forever-once _ _ _ c.walk-a.ensures c.only.ensures c.if-only.false

pub walk_if-walk-a-requires : goal.walk_if-walk-a-requires
walk_if-walk-a-requires t c =
    (search rules, omega (arith, c.deeper-inner.ensures, deeper-most c.args.w.on c.args.level, c.requires))

pub walk_if-returns : goal.walk_if-returns
unfolding ascii
walk_if-returns t c =
    if-path _ _ _ _ c.walk_condition-c.ensures
    c.deeper-inner.ensures c.walk-a.ensures
    c.say_word-pos.ensures c.either.ensures

pub walk_if_else-walk-a-requires : goal.walk_if_else-walk-a-requires
walk_if_else-walk-a-requires t c =
    (search rules, omega (arith, c.deeper-inner.ensures, deeper-most c.args.w.on c.args.level, c.requires))

pub walk_if_else-walk-b-requires : goal.walk_if_else-walk-b-requires
walk_if_else-walk-b-requires t c =
    (search rules, omega (arith, c.deeper-inner.ensures, deeper-most c.args.w.on c.args.level, c.requires))

pub walk_if_else-returns : goal.walk_if_else-returns
unfolding ascii
walk_if_else-returns t c =
    if-else-path _ _ _ _ c.walk_condition-c.ensures c.deeper-inner.ensures c.walk-a.ensures
    c.say_word-middle.ensures c.walk-b.ensures
    c.say_word-pos.ensures c.either.ensures

pub walk_sequence-returns : goal.walk_sequence-returns
walk_sequence-returns t c =
    sequence-path _ _ _ c.walk-a.ensures c.walk.ensures

pub walk_while-returns-then-only : goal.walk_while-returns-then-only
walk_while-returns-then-only t c =
    while-again _ _ _ _ c.walk_if-a.ensures
    c.only.ensures c.if-only.true c.walk_if.ensures

pub walk_while-returns : goal.walk_while-returns
walk_while-returns t c =
    while-once _ _ _ _ c.walk_if-a.ensures c.only.ensures c.if-only.false
