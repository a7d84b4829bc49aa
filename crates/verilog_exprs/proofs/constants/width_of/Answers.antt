-- `verilog_exprs::constants::width_of` meets its contract. Assumes nothing.
use mathlib.Core.Path.{sym}
use Rattle.verilog_exprs.proofs.Values.{up_to-in, up_to-past}
use Rattle.verilog_exprs.proofs.constants.width_of.Goals as goal

pub returns-then-n-le32 : goal.returns-then-n-le32
returns-then-n-le32 c =
    sym (up_to-in 32 c.args.n c.if-n-le32.true)

pub returns-else-n-le32 : goal.returns-else-n-le32
returns-else-n-le32 c =
    sym (up_to-past 32 c.args.n c.if-n-le32.false)
