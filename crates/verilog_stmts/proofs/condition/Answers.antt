-- `verilog_stmts::condition` meets its contract. Assumes nothing.
use Rattle.verilog_exprs.specs.Rows.{expected}
use Rattle.verilog_stmts.specs.Stmts.{condition}
use Rattle.verilog_stmts.proofs.Picks.{onward}
use Rattle.verilog_stmts.proofs.condition.Goals as goal

pub returns : goal.returns
unfolding condition
returns c =
    onward (expected c.args.kinds.now 21) c.expect-2.ensures
    (rw (← c.expect.ensures) c.value-e.ensures)
