-- How a statement waits, form by form; what is left of the depth falls. Assumes nothing.
use Prim.Native.Nat.{ℕ}
use mathlib.Core.Path.{refl, sym, ap, ◌∙◌}
use Rattle.sheet.specs.Statement.{form_of}
use Rattle.pseudocode.proofs.Filling.{no-form}
use Rattle.rules.proofs.Walking.{walk_none, walk-far, walk-other, at-empty, at-assign, at-later, at-sequence}
use Rattle.rules.proofs.Walking.{at-if, at-if-else, at-while, at-forever, at-wait}
use Rattle.rules.proofs.+walk.Goals.{then-depth-eq0-via-then-depth-eq0, then-depth-eq0-via-else-depth-eq0+then-at-ge8192}
use Rattle.rules.proofs.+walk.Goals as goal

pub returns-then-depth-eq0 : goal.returns-then-depth-eq0
returns-then-depth-eq0 t c =
    elim c.then-depth-eq0.branch [
      | then-depth-eq0-via-then-depth-eq0 w ↦ walk_none _ _ _ _ w.if-depth-eq0.true c.running.ensures
      | then-depth-eq0-via-else-depth-eq0+then-at-ge8192 w ↦ walk-far _ _ _ _ w.if-at-ge8192.true c.running.ensures
    ]

pub returns-in-0 : goal.returns-in-0
returns-in-0 t c =
    at-empty _ _ _ _ c.if-depth-eq0.false c.if-at-ge8192.false (sym c.byte_at.ensures ∙ c.in-0.is)
    c.running-in-0.ensures

pub returns-in-3 : goal.returns-in-3
returns-in-3 t c =
    at-assign _ _ _ _ c.if-depth-eq0.false c.if-at-ge8192.false (sym c.byte_at.ensures ∙ c.in-3.is)
    c.skip_expr.ensures c.running-in-3.ensures

pub returns-in-35 : goal.returns-in-35
returns-in-35 t c =
    at-later _ _ _ _ c.if-depth-eq0.false c.if-at-ge8192.false (sym c.byte_at.ensures ∙ c.in-35.is)
    c.skip_expr-in-35.ensures c.running-in-35.ensures

pub returns-in-12 : goal.returns-in-12
returns-in-12 t c =
    at-sequence _ _ _ _ c.if-depth-eq0.false c.if-at-ge8192.false (sym c.byte_at.ensures ∙ c.in-12.is)
    c.walk-a.ensures c.walk.ensures c.in_sequence.ensures

pub returns-in-6 : goal.returns-in-6
returns-in-6 t c =
    at-if _ _ _ _ c.if-depth-eq0.false c.if-at-ge8192.false (sym c.byte_at.ensures ∙ c.in-6.is)
    c.skip_expr-e.ensures c.walk-in-6.ensures c.in_if.ensures

pub returns-in-14 : goal.returns-in-14
returns-in-14 t c =
    at-if-else _ _ _ _ c.if-depth-eq0.false c.if-at-ge8192.false (sym c.byte_at.ensures ∙ c.in-14.is)
    c.skip_expr-e-in-14.ensures c.walk-a-in-14.ensures c.walk-in-14.ensures c.in_if_else.ensures

pub returns-in-70 : goal.returns-in-70
returns-in-70 t c =
    at-while _ _ _ _ c.if-depth-eq0.false c.if-at-ge8192.false (sym c.byte_at.ensures ∙ c.in-70.is)
    c.skip_expr-e-in-70.ensures c.walk-in-70.ensures c.in_while.ensures

pub returns-in-68 : goal.returns-in-68
returns-in-68 t c =
    at-forever _ _ _ _ c.if-depth-eq0.false c.if-at-ge8192.false (sym c.byte_at.ensures ∙ c.in-68.is)
    c.walk-in-68.ensures c.in_forever.ensures

pub returns-in-16 : goal.returns-in-16
returns-in-16 t c =
    at-wait _ _ _ _ c.if-depth-eq0.false c.if-at-ge8192.false (sym c.byte_at.ensures ∙ c.in-16.is)
    c.byte_at-in-16.ensures refl c.waits.ensures

pub returns-in_default : goal.returns-in_default
returns-in_default t c =
    let at = c.args.at in
    let r = c.in_default.in_default-own.rest in
    walk-other _ _ at _ c.if-depth-eq0.false c.if-at-ge8192.false
    (ap (λ (m : ℕ). form_of m at) (sym c.byte_at.ensures)
    ∙ no-form _ at r.0.0.0.0.0.0.0.0.1 r.0.0.0.0.0.0.0.1 r.0.0.0.0.0.0.1 r.0.0.0.0.0.1 r.0.0.0.0.1
    r.0.0.0.1 r.0.0.1 r.0.1 r.1)
    c.running-in_default.ensures
