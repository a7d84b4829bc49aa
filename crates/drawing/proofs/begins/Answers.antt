-- `drawing::begins` meets its contract. Assumes nothing.
use mathlib.Core.Path.{refl}
use borrow.Author.Tests.{eq-eqb, ne_eqb}
use Rattle.drawing.specs.Drawing.{begins}
use Rattle.drawing.proofs.begins.Goals as goal

pub returns-then-h-eq0 : goal.returns-then-h-eq0
unfolding begins
returns-then-h-eq0 c =
    rw (eq-eqb _ _ c.if-h-eq0.true) refl

pub returns : goal.returns
unfolding begins
returns c =
    rw (ne_eqb _ _ c.if-h-eq0.false, ← c.value_at-old.ensures, ← c.value_at-new.ensures, ← c.same.ensures) refl
