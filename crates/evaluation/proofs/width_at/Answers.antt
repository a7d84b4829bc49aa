-- `evaluation::width_at` meets its contract. Assumes nothing.
use mathlib.Core.Path.{◌∙◌}
use Rattle.evaluation.proofs.Bytes.{width-inside, width-outside}
use Rattle.evaluation.proofs.width_at.Goals as goal

pub returns-then-sheet-widths : goal.returns-then-sheet-widths
returns-then-sheet-widths c =
    width-outside _ _ _ c.if-sheet-widths.true

pub returns : goal.returns
returns c =
    let a = c.args in
    c.byte_at.ensures ∙ width-inside a.sheet.now a.widths a.v
