-- `verilog_stmts::refused` meets its contract. Assumes nothing.
use mathlib.Core.Path.{refl}
use Rattle.verilog_stmts.specs.Steps.{refused}
use Rattle.verilog_stmts.proofs.refused.Goals as goal

pub returns : goal.returns
unfolding refused
returns c =
    refl
