-- `verilog_stmts::term` meets its contract. Assumes nothing.
use Rattle.verilog_stmts.specs.Steps.{named}
use Rattle.verilog_stmts.specs.Events.{term}
use Rattle.verilog_stmts.proofs.Picks.{behind}
use Rattle.verilog_stmts.proofs.term.Goals as goal

pub returns : goal.returns
unfolding term
returns c =
    behind (λ s. named c.args.kinds.now c.args.numbers.now s)
    c.write-a.ensures c.named.ensures
