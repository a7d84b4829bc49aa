-- `verilog::print_wait` meets its contract. Assumes nothing.
use mathlib.Core.Path.{refl}
use Rattle.writing.specs.Ascii.{ascii}
use Rattle.verilog.proofs.Printing.{wait-path}
use Rattle.verilog.proofs.print_wait.Goals as goal

pub returns : goal.returns
unfolding ascii
returns c =
    wait-path _ _ _ _ _ _ c.byte_at-n.ensures refl
    c.put_indent-p.ensures c.put_word-q.ensures
    c.put_terms-w.ensures c.put_word-end.ensures
