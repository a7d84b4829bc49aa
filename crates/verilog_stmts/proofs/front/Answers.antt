-- `verilog_stmts::front` meets its contract. Assumes nothing.
use mathlib.Core.Path.{ap}
use Rattle.verilog_stmts.specs.Steps.{front, placed}
use Rattle.verilog_stmts.proofs.front.Goals as goal

pub returns : goal.returns
unfolding front
returns c =
    ap (λ t. placed c.args.at t) c.put_front-p.ensures
