-- `verilog_origins::place_at` meets its contract. Assumes nothing.
use mathlib.Core.Path.{sym}
use Rattle.verilog_exprs.proofs.Table.{row_in, row-past}
use Rattle.verilog_origins.proofs.place_at.Goals as goal

pub returns-then-i-lt16385 : goal.returns-then-i-lt16385
returns-then-i-lt16385 c =
    sym (row_in _ _ c.if-i-lt16385.true)

pub returns-else-i-lt16385 : goal.returns-else-i-lt16385
returns-else-i-lt16385 c =
    sym (row-past _ _ c.if-i-lt16385.false)
