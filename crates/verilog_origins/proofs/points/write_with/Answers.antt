-- `verilog_origins::points::write_with` meets its contract. Assumes nothing.
use mathlib.Core.Path.{refl}
use Rattle.verilog_origins.proofs.Pointing.{bytes_whole, bytes-in}
use Rattle.verilog_origins.proofs.points.write_with.Goals as goal

pub returns : goal.returns
returns c =
    bytes_whole _ _ _ _ _ _ _ _ c.mark.ensures refl c.put_head-head.ensures
    c.find_wire-h.ensures c.find_thread.ensures (bytes-in _)
