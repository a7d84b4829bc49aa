-- `verilog_items::names::ident` meets its contract. Assumes nothing.
use borrow.Author.Rules.{rules}
use Rattle.verilog_stmts.specs.Steps.{refused, after}
use Rattle.verilog_stmts.proofs.Picks.{taken, left}
use Rattle.verilog_items.specs.Items.{ident}
use Rattle.verilog_items.proofs.names.ident.Goals as goal

pub returns-then-is_next : goal.returns-then-is_next
unfolding ident
returns-then-is_next c =
    taken after refused c.is_next.ensures c.if-is_next.true c.after.ensures

pub returns : goal.returns
unfolding ident
returns c =
    left after refused c.is_next.ensures c.if-is_next.false c.refused.ensures
