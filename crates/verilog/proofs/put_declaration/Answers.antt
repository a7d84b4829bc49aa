-- `verilog::put_declaration` meets its contract. Assumes nothing.
use Rattle.writing.specs.Ascii.{ascii}
use Rattle.writing.proofs.Buffer.{both}
use Rattle.verilog.specs.Verilog.{declaration_text}
use Rattle.verilog.proofs.put_declaration.Goals as goal

pub returns : goal.returns
unfolding ascii declaration_text
returns c =
    both _ _ _ _ _ c.put_word-p.ensures
    (both _ _ _ _ _ c.put_direction-q.ensures
    (both _ _ _ _ _ c.put_range-w.ensures
    (both _ _ _ _ _ c.put_name-e.ensures c.put_word.ensures)))
