-- `verilog::put_term` meets its contract. Assumes nothing.
use Rattle.writing.specs.Ascii.{ascii}
use Rattle.writing.proofs.Buffer.{both}
use Rattle.verilog.specs.Printing.{term_at}
use Rattle.verilog.proofs.put_term.Goals as goal

pub returns : goal.returns
unfolding term_at ascii
returns c =
    rw (← c.byte_at-edge.ensures, ← c.byte_at-v.ensures)
    (both _ _ _ _ _ c.put_before-p.ensures
    (both _ _ _ _ _ c.put_edge-q.ensures c.put_name.ensures))
