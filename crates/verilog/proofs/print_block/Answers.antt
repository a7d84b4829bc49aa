-- `verilog::print_block` meets its contract. Assumes nothing.
use Rattle.writing.specs.Ascii.{ascii}
use Rattle.verilog.proofs.Printing.{block-path}
use Rattle.verilog.proofs.print_block.Goals as goal

pub returns : goal.returns
unfolding ascii
returns c =
    block-path _ _ _ _ _ c.put_word-p.ensures
    c.print_stmt-a.ensures c.put_word-end.ensures
