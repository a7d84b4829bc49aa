-- `verilog_items::thread` meets its contract. Assumes nothing.
use borrow.Author.Rules.{rules}
use mathlib.Core.Path.{refl}
use Rattle.verilog_items.proofs.Turns.{thread-whole}
use Rattle.verilog_items.proofs.thread.Goals as goal

pub returns : goal.returns
returns c ws =
    thread-whole _ _ _ _ _ _ ws c.mark.ensures c.after.ensures c.rewind-s.ensures c.left-n.ensures refl c.statement.ensures
