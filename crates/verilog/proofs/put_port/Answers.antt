-- `verilog::put_port` meets its contract. Assumes nothing.
use Rattle.writing.specs.Ascii.{ascii}
use Rattle.writing.proofs.Buffer.{both}
use Rattle.verilog.specs.Verilog.{port_text}
use Rattle.verilog.proofs.put_port.Goals as goal

pub returns : goal.returns
unfolding ascii port_text
returns c =
    both _ _ _ _ _ c.put_before-p.ensures c.put_name.ensures
