-- `verilog_names::faults::lower` meets its contract. Assumes nothing.
use Rattle.verilog_names.proofs.AtFault.{lower-first, lower-second}
use Rattle.verilog_names.proofs.faults.lower.Goals as goal

pub returns-then-b-a : goal.returns-then-b-a
returns-then-b-a c =
    lower-second _ _ c.if-b-a.true

pub returns-else-b-a : goal.returns-else-b-a
returns-else-b-a c =
    lower-first _ _ c.if-b-a.false
