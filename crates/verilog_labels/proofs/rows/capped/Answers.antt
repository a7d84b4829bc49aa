-- `verilog_labels::rows::capped` meets its contract. Assumes nothing.
use Rattle.verilog_names.proofs.Chosen.{capped-below, capped-above}
use Rattle.verilog_labels.proofs.rows.capped.Goals as goal

pub returns-then-count-lt16385 : goal.returns-then-count-lt16385
returns-then-count-lt16385 c =
    capped-below _ c.if-count-lt16385.true

pub returns-else-count-lt16385 : goal.returns-else-count-lt16385
returns-else-count-lt16385 c =
    capped-above _ c.if-count-lt16385.false
