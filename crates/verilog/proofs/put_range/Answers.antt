-- `verilog::put_range` meets its contract. Assumes nothing.
use mathlib.Core.Path.{sym, ap, ◌∙◌}
use Rattle.writing.specs.Ascii.{ascii}
use Rattle.writing.specs.Numbers.{decimal}
use Rattle.writing.specs.Buffer.{puts}
use Rattle.writing.proofs.Buffer.{both}
use Rattle.writing.proofs.Buffer.{puts-nil}
use Rattle.verilog.specs.Verilog.{range_text}
use Rattle.verilog.proofs.Printing.{range-wide}
use Rattle.verilog.proofs.put_range.Goals as goal

pub returns-then-width-eq1 : goal.returns-then-width-eq1
unfolding range_text
returns-then-width-eq1 c =
    rw c.if-width-eq1.true (sym (puts-nil _))

pub returns : goal.returns
unfolding ascii
returns c =
    both _ _ _ _ _ c.put_word-p.ensures
    (both _ _ _ _ _ (c.put_decimal-q.ensures ∙ ap (puts _)
    (ap decimal c.saturating_sub.ensures)) c.put_word.ensures)
    ∙ ap (puts _) (sym (range-wide _ c.if-width-eq1.false))
