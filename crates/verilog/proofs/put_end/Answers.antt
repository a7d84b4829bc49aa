-- `verilog::put_end` meets its contract. Assumes nothing.
use mathlib.Core.Path.{sym, ap, ◌∙◌}
use Rattle.writing.specs.Ascii.{ascii}
use Rattle.writing.specs.Buffer.{puts}
use Rattle.verilog.proofs.Printing.{end-other, end-last, end-else}
use Rattle.verilog.proofs.put_end.Goals as goal

pub returns-then-shape-ne14 : goal.returns-then-shape-ne14
unfolding ascii
returns-then-shape-ne14 c =
    c.put_word.ensures ∙ ap (puts _) (sym (end-other _ _ c.if-shape-ne14.true))

pub returns-then-k-ne2 : goal.returns-then-k-ne2
unfolding ascii
returns-then-k-ne2 c =
    c.put_word-then-k-ne2.ensures ∙ ap (puts _) (sym (end-last _ _ c.if-shape-ne14.false c.if-k-ne2.true))

pub returns : goal.returns
unfolding ascii
returns c =
    c.put_word-2.ensures ∙ ap (puts _) (sym (end-else _ _ c.if-shape-ne14.false c.if-k-ne2.false))
