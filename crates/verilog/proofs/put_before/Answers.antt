-- `verilog::put_before` meets its contract. Assumes nothing.
use mathlib.Core.Path.{sym, ap, ◌∙◌}
use Rattle.writing.specs.Buffer.{puts}
use Rattle.writing.proofs.Buffer.{puts-nil}
use Rattle.verilog.specs.Verilog.{before}
use Rattle.verilog.proofs.Printing.{before_more}
use Rattle.verilog.proofs.put_before.Goals as goal

pub returns-then-k-eq0 : goal.returns-then-k-eq0
unfolding before
returns-then-k-eq0 c =
    rw c.if-k-eq0.true (sym (puts-nil _))

pub returns : goal.returns
returns c =
    c.put_word.ensures ∙ ap (puts _) (sym (before_more _ _ c.if-k-eq0.false))
