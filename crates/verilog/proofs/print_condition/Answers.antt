-- `verilog::print_condition` meets its contract. Assumes nothing.
use Rattle.writing.specs.Ascii.{ascii}
use Rattle.verilog.proofs.Printing.{condition-path}
use Rattle.verilog.proofs.print_condition.Goals as goal

pub returns : goal.returns
unfolding ascii
returns c =
    condition-path _ _ _ _ _ _ _ c.put_indent-p.ensures c.put_word-w.ensures
    c.print_expr-e.ensures c.put_word-end.ensures
