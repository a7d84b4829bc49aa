-- `evaluation::skip_body` meets its contract, map by map; the depth falls. Assumes nothing.
use mathlib.Core.Path.{refl, sym, ◌∙◌}
use Rattle.evaluation.specs.Bytes.{skip_form}
use Rattle.evaluation.proofs.Bytes.{skip_form-other, skip_body-stop, skip_body-form}
use Rattle.evaluation.proofs.+skip_body.Goals as goal

pub returns-then-depth-eq0 : goal.returns-then-depth-eq0
returns-then-depth-eq0 t c =
    skip_body-stop _ _ _ _ c.then-depth-eq0.either

pub returns-in-3 : goal.returns-in-3
unfolding skip_form
returns-in-3 t c =
    rw c.skip_expr.ensures (sym (skip_body-form _ _ _ _ c.if-depth-eq0.false c.if-sheet-at.false c.in-3.is))

pub returns-in-12 : goal.returns-in-12
unfolding skip_form
returns-in-12 t c =
    rw (c.skip_body.ensures, c.skip_body-second.ensures) (sym (skip_body-form _ _ _ _ c.if-depth-eq0.false c.if-sheet-at.false c.in-12.is))

pub returns-in-6 : goal.returns-in-6
unfolding skip_form
returns-in-6 t c =
    rw (c.skip_body-in-6.ensures, c.skip_expr-leg.ensures) (sym (skip_body-form _ _ _ _ c.if-depth-eq0.false c.if-sheet-at.false c.in-6.is))

pub returns-in-14 : goal.returns-in-14
unfolding skip_form
returns-in-14 t c =
    rw (c.skip_body-in-14.ensures, c.skip_body-other.ensures, c.skip_expr-leg-in-14.ensures) (sym (skip_body-form _ _ _ _ c.if-depth-eq0.false c.if-sheet-at.false c.in-14.is))

pub returns-in_default : goal.returns-in_default
returns-in_default t c =
    let r = c.in_default.in_default-own.rest in
    sym (skip_body-form _ _ _ _ c.if-depth-eq0.false c.if-sheet-at.false refl
    ∙ skip_form-other _ _ _ _ r.0.0.0.1 r.0.0.1 r.0.1 r.1)
