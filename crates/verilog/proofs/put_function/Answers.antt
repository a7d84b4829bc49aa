-- `verilog::put_function` meets its contract. Assumes nothing.
use Rattle.writing.specs.Ascii.{ascii}
use Rattle.writing.proofs.Buffer.{both}
use Rattle.verilog.specs.Verilog.{function_head}
use Rattle.verilog.proofs.put_function.Goals as goal

pub returns : goal.returns
unfolding ascii function_head
returns c =
    both _ _ _ _ _ c.put_word-p.ensures
    (both _ _ _ _ _ c.put_range-q.ensures
    (both _ _ _ _ _ c.put_word-w.ensures
    (both _ _ _ _ _ c.put_decimal-e.ensures c.put_word.ensures)))
