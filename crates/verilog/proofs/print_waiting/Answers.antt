-- `verilog::print_waiting` meets its contract. Assumes nothing.
use Rattle.writing.specs.Ascii.{ascii}
use Rattle.verilog.proofs.Printing.{waiting-path}
use Rattle.verilog.proofs.print_waiting.Goals as goal

pub returns : goal.returns
unfolding ascii
returns c =
    waiting-path _ _ _ _ _ c.put_word-p.ensures c.print_wait-w.ensures c.print_stmt-a.ensures
    c.put_word-end.ensures
