-- `verilog_read::bytes::write` meets its contract. Assumes nothing.
use mathlib.Core.Path.{refl}
use borrow.Author.Rules.{rules}
use Rattle.verilog_read.proofs.Wholes.{write-whole}
use Rattle.verilog_read.proofs.bytes.write.Goals as goal

pub returns : goal.returns
returns c =
    write-whole _ _ _ _ _ _ _ refl c.put_head-head.ensures c.wires-body.ensures c.threads.ensures
