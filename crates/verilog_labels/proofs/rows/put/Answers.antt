-- `verilog_labels::rows::put` meets its contract. Assumes nothing.
use borrow.Author.Rules.{rules}
use Rattle.verilog_labels.proofs.Laying.{put-inside, put-past}
use Rattle.verilog_labels.proofs.rows.put.Goals as goal

pub returns-then-k-lt80 : goal.returns-then-k-lt80
returns-then-k-lt80 c =
    put-inside _ _ _ c.if-k-lt80.true

pub returns-else-k-lt80 : goal.returns-else-k-lt80
returns-else-k-lt80 c =
    put-past _ _ _ c.if-k-lt80.false
