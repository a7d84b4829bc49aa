-- `verilog_items::target` meets its contract. Assumes nothing.
use borrow.Author.Rules.{rules}
use Rattle.verilog_items.proofs.Turns.{target-whole}
use Rattle.verilog_items.proofs.target.Goals as goal

pub returns : goal.returns
returns c ws =
    target-whole _ _ _ _ _ _ ws c.mark.ensures c.after.ensures c.expect-e.ensures c.rewind.ensures c.value.ensures
