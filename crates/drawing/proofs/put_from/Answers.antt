-- `drawing::put_from` meets its contract. Assumes nothing.
use mathlib.Core.Path.{◌∙◌, sym}
use Rattle.drawing.specs.Drawing.{stretch_from}
use Rattle.writing.proofs.Buffer.{puts-nil}
use Rattle.drawing.proofs.put_from.Goals as goal

pub returns-then-not-begins : goal.returns-then-not-begins
unfolding stretch_from
returns-then-not-begins c =
    rw (sym c.begins.ensures ∙ c.if-not-begins.true) (sym (puts-nil _))

pub returns : goal.returns
unfolding stretch_from
returns c =
    rw (
      sym c.begins.ensures ∙ c.if-not-begins.false,
      ← c.value_at-a.ensures,
      ← c.halves-end.ensures.value,
      ← c.end_of-e.ensures.value,
    ) c.put_stretch.ensures
