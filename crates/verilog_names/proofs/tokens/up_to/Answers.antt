-- `verilog_names::tokens::up_to` meets its contract. Assumes nothing.
use Rattle.verilog_names.proofs.Chosen.{up_to-below, up_to-above}
use Rattle.verilog_names.proofs.tokens.up_to.Goals as goal

pub returns-then-n-most : goal.returns-then-n-most
returns-then-n-most c =
    up_to-below _ _ c.if-n-most.true

pub returns-else-n-most : goal.returns-else-n-most
returns-else-n-most c =
    up_to-above _ _ c.if-n-most.false
