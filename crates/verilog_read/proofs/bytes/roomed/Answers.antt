-- `verilog_read::bytes::roomed` meets its contract. Assumes nothing.
use Rattle.verilog_read.proofs.Turns.{roomed-below, roomed-above}
use Rattle.verilog_read.proofs.bytes.roomed.Goals as goal

pub returns-then-n-lt65536 : goal.returns-then-n-lt65536
returns-then-n-lt65536 c =
    roomed-below _ c.if-n-lt65536.true

pub returns-else-n-lt65536 : goal.returns-else-n-lt65536
returns-else-n-lt65536 c =
    roomed-above _ c.if-n-lt65536.false
