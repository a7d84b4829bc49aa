-- `verilog_read::bytes::value_behind` meets its contract. Assumes nothing.
use borrow.Author.Rules.{rules}
use Rattle.verilog_read.proofs.Turns.{value-whole}
use Rattle.verilog_read.proofs.bytes.value_behind.Goals as goal

pub returns : goal.returns
returns c =
    value-whole _ _ _ _ _ _ _ c.from.ensures c.after.ensures c.after-2.ensures c.value-e.ensures
