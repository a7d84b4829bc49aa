-- `verilog::put_closing` meets its contract. Assumes nothing.
use mathlib.Core.Path.{sym, ap, ◌∙◌}
use Rattle.writing.specs.Buffer.{puts}
use Rattle.writing.proofs.Buffer.{both, puts-nil}
use Rattle.verilog.proofs.Printing.{closing-flat, closing-block}
use Rattle.verilog.proofs.put_closing.Goals as goal

pub returns-then-is_flat : goal.returns-then-is_flat
returns-then-is_flat c =
    sym (puts-nil _) ∙ ap (puts _) (sym (closing-flat _ _ _ (sym c.is_flat.ensures ∙ c.if-is_flat.true)))

pub returns : goal.returns
returns c =
    both _ _ _ _ _ c.put_indent-p.ensures c.put_end.ensures
    ∙ ap (puts _) (sym (closing-block _ _ _ (sym c.is_flat.ensures ∙ c.if-is_flat.false)))
