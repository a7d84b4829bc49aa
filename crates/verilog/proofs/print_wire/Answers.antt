-- `verilog::print_wire` meets its contract. Assumes nothing.
use Rattle.writing.specs.Ascii.{ascii}
use Rattle.verilog.proofs.Printing.{wire-path}
use Rattle.verilog.proofs.print_wire.Goals as goal

pub returns : goal.returns
unfolding ascii
returns c =
    wire-path _ _ _ _ _ _ c.put_word-p.ensures c.put_name-q.ensures
    c.put_word-w.ensures c.print_expr-e.ensures
    c.put_word-end.ensures
