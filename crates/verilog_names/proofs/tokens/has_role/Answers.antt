-- `verilog_names::tokens::has_role` meets its contract. Assumes nothing.
use Rattle.verilog_names.proofs.Chosen.{role-tested}
use Rattle.verilog_names.proofs.tokens.has_role.Goals as goal

pub returns : goal.returns
returns c =
    role-tested _ _ _
