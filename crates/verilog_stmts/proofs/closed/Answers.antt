-- `verilog_stmts::closed` meets its contract. Assumes nothing.
use Rattle.verilog_exprs.specs.Rows.{expected}
use Rattle.verilog_stmts.specs.Stmts.{closed}
use Rattle.verilog_stmts.proofs.Picks.{onward}
use Rattle.verilog_stmts.proofs.closed.Goals as goal

pub returns : goal.returns
unfolding closed
returns c =
    onward (expected c.args.kinds.now 25) c.expect.ensures c.value-e.ensures
