-- `verilog::put_opening` meets its contract. Assumes nothing.
use mathlib.Core.Path.{sym, ap, ◌∙◌}
use Rattle.writing.specs.Ascii.{ascii}
use Rattle.writing.specs.Buffer.{puts}
use Rattle.writing.proofs.Buffer.{both}
use Rattle.verilog.proofs.Printing.{opening-call, opening-operator}
use Rattle.verilog.proofs.put_opening.Goals as goal

pub returns-then-map-ne128 : goal.returns-then-map-ne128
unfolding ascii
returns-then-map-ne128 c =
    c.put_word.ensures ∙ ap (puts _) (sym (opening-operator _ _ c.if-map-ne128.true))

pub returns : goal.returns
unfolding ascii
returns c =
    both _ _ _ _ _ c.put_word-p.ensures
    (both _ _ _ _ _ c.put_decimal-q.ensures
    c.put_word-2.ensures)
    ∙ ap (puts _) (sym (opening-call _ _ c.if-map-ne128.false))
