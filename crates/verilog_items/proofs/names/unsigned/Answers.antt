-- `verilog_items::names::unsigned` meets its contract. Assumes nothing.
use borrow.Author.Rules.{rules}
use Rattle.verilog_stmts.specs.Steps.{refused, after}
use Rattle.verilog_stmts.proofs.Picks.{taken, left}
use Rattle.verilog_items.specs.Items.{unsigned}
use Rattle.verilog_items.proofs.names.unsigned.Goals as goal

pub returns-then-is_number : goal.returns-then-is_number
unfolding unsigned
returns-then-is_number c =
    taken after refused c.is_number.ensures c.if-is_number.true c.after.ensures

pub returns : goal.returns
unfolding unsigned
returns c =
    left after refused c.is_number.ensures c.if-is_number.false c.refused.ensures
