-- `verilog_read::scanned` meets its contract. Assumes nothing.
use borrow.Author.Rules.{rules}
use Rattle.verilog_read.proofs.Wholes.{scanned-whole}
use Rattle.verilog_read.proofs.scanned.Goals as goal

pub returns : goal.returns
returns c =
    scanned-whole _ _ c.requires c.scan-count.ensures c.short.ensures c.derived.ensures
