-- `verilog::print_assign` meets its contract. Assumes nothing.
use mathlib.Core.Path.{refl}
use Rattle.writing.specs.Ascii.{ascii}
use Rattle.verilog.proofs.Printing.{assign-path}
use Rattle.verilog.proofs.print_assign.Goals as goal

pub returns : goal.returns
unfolding ascii
returns c =
    assign-path _ _ _ _ _ _ _ c.byte_at-target.ensures refl
    c.put_indent-p.ensures c.put_name-q.ensures
    c.put_word-w.ensures c.print_expr-e.ensures
    c.put_word-end.ensures
