-- `verilog_read::bytes::judge` meets its contract. Assumes nothing.
use borrow.Author.Rules.{rules}
use Rattle.verilog_read.proofs.Wholes.{judge-no, judge-yes}
use Rattle.verilog_read.proofs.bytes.judge.Goals as goal

pub returns-then-r-ne0 : goal.returns-then-r-ne0
returns-then-r-ne0 c =
    judge-no _ _ c.read-r.ensures c.if-r-ne0.true c.refusal.ensures

pub returns : goal.returns
returns c =
    judge-yes _ _ c.read-r.ensures c.if-r-ne0.false c.copy.ensures
