-- `verilog_bytes::put_pair` meets its contract. Assumes nothing.
use Rattle.writing.proofs.Buffer.{both}
use Rattle.verilog_bytes.proofs.put_pair.Goals as goal

pub returns : goal.returns
returns c =
    both _ _ _ _ _ c.put_byte-p.ensures c.put_byte.ensures
