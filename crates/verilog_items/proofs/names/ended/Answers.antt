-- `verilog_items::names::ended` meets its contract. Assumes nothing.
use borrow.Author.Rules.{rules}
use mathlib.Core.Path.{refl}
use Rattle.verilog_stmts.specs.Steps.{refused}
use Rattle.verilog_stmts.proofs.Picks.{taken, left}
use Rattle.verilog_items.specs.Items.{stay, ended}
use Rattle.verilog_items.proofs.names.ended.Goals as goal

pub returns-then-is_next : goal.returns-then-is_next
unfolding ended
returns-then-is_next c =
    taken stay refused c.is_next.ensures c.if-is_next.true refl

pub returns : goal.returns
unfolding ended
returns c =
    left stay refused c.is_next.ensures c.if-is_next.false c.refused.ensures
