-- `drawing::put_label` meets its contract. Assumes nothing.
use mathlib.Core.Path.{◌∙◌, sym}
use Rattle.drawing.specs.Drawing.{label}
use Rattle.writing.proofs.Buffer.{both, puts-nil}
use Rattle.writing.specs.Ascii.{ascii}
use Rattle.drawing.proofs.put_label.Goals as goal

pub returns-then-not-is_labelled : goal.returns-then-not-is_labelled
unfolding label
returns-then-not-is_labelled c =
    rw (sym c.is_labelled.ensures ∙ c.if-not-is_labelled.true) (sym (puts-nil _))

pub returns : goal.returns
unfolding ascii label
returns c =
    rw (sym c.is_labelled.ensures ∙ c.if-not-is_labelled.false, ← c.rise_at-x.ensures)
    (both _ _ _ _ _ c.put_measure-p.ensures
    (both _ _ _ _ _ c.put_measure-q.ensures
    c.put_word.ensures))
