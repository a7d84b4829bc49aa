-- `verilog_labels::scanned` meets its contract. Assumes nothing.
use borrow.Author.Rules.{rules}
use Rattle.verilog_labels.proofs.Wholes.{scanned-whole}
use Rattle.verilog_labels.proofs.scanned.Goals as goal

pub returns : goal.returns
returns c =
    scanned-whole _ _ _ c.requires c.scan-count.ensures c.few.ensures
    c.derived.ensures
