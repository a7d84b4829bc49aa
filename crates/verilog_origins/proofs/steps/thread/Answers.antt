-- `verilog_origins::steps::thread` meets its contract. Assumes nothing.
use Rattle.verilog_read.proofs.Turns.{thread-not, thread-one}
use Rattle.verilog_origins.proofs.steps.thread.Goals as goal

pub returns-then-roles-i-ne5 : goal.returns-then-roles-i-ne5
returns-then-roles-i-ne5 c =
    thread-not _ _ _ _ _ _ c.if-roles-i-ne5.true

pub returns : goal.returns
returns c =
    thread-one _ _ _ _ _ _ c.if-roles-i-ne5.false c.statement_behind.ensures
