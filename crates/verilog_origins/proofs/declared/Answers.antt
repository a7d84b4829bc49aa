-- `verilog_origins::declared` meets its contract. Assumes nothing.
use Rattle.verilog_origins.proofs.Origins.{declared-low, declared-high, declared-is}
use Rattle.verilog_origins.proofs.declared.Goals as goal

pub returns-then-n-lt4 : goal.returns-then-n-lt4
returns-then-n-lt4 c =
    declared-low _ _ c.if-n-lt4.true

pub returns-then-n-ge84 : goal.returns-then-n-ge84
returns-then-n-ge84 c =
    declared-high _ _ c.if-n-lt4.false c.if-n-ge84.true

pub returns : goal.returns
returns c =
    declared-is _ _ c.if-n-lt4.false c.if-n-ge84.false
    c.names.ensures c.wide.ensures
