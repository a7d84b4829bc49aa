-- `verilog::put_result` meets its contract. Assumes nothing.
use Rattle.writing.specs.Ascii.{ascii}
use Rattle.writing.proofs.Buffer.{both}
use Rattle.verilog.specs.Verilog.{function_end}
use Rattle.verilog.proofs.put_result.Goals as goal

pub returns : goal.returns
unfolding ascii function_end
returns c =
    both _ _ _ _ _ c.put_word-p.ensures
    (both _ _ _ _ _ c.put_decimal-q.ensures c.put_word.ensures)
