-- `verilog_origins::steps::capped` meets its contract. Assumes nothing.
use Rattle.verilog_names.proofs.Chosen.{capped-below, capped-above}
use Rattle.verilog_origins.proofs.steps.capped.Goals as goal

pub returns-then-n-lt16385 : goal.returns-then-n-lt16385
returns-then-n-lt16385 c =
    capped-below _ c.if-n-lt16385.true

pub returns-else-n-lt16385 : goal.returns-else-n-lt16385
returns-else-n-lt16385 c =
    capped-above _ c.if-n-lt16385.false
