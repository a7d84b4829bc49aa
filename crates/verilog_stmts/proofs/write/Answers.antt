-- `verilog_stmts::write` meets its contract. Assumes nothing.
use mathlib.Core.Path.{ap}
use Rattle.verilog_stmts.specs.Steps.{write, placed}
use Rattle.verilog_stmts.proofs.write.Goals as goal

pub returns : goal.returns
unfolding write
returns c =
    ap (λ t. placed c.args.at t) c.put_byte-p.ensures
