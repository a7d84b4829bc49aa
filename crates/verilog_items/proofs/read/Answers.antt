-- `verilog_items::read` meets its contract. Assumes nothing.
use borrow.Author.Rules.{rules}
use Rattle.verilog_items.proofs.Turns.{read_whole}
use Rattle.verilog_items.proofs.read.Goals as goal

pub returns : goal.returns
returns c =
    read_whole _ _ _ _ _ _ c.heading-head.ensures c.item_list-end.ensures c.ended.ensures
