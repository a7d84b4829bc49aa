-- `verilog::print_word` meets its contract. Assumes nothing.
use Rattle.verilog.proofs.Printing.{word-path}
use Rattle.verilog.proofs.print_word.Goals as goal

pub returns : goal.returns
returns c =
    word-path _ _ _ _ c.put_indent-p.ensures c.put_word-end.ensures
