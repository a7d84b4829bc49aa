-- `verilog_items::item` meets its contract. Assumes nothing.
use borrow.Author.Rules.{rules}
use Rattle.verilog_items.proofs.Turns.{item-input, item-register, item-wire, item-assign, item-always, item-none}
use Rattle.verilog_items.proofs.item.Goals as goal

pub returns-in-3 : goal.returns-in-3
returns-in-3 c =
    item-input _ _ _ _ _ _ _ c.kind_at.ensures c.in-3.is c.declaration.ensures

pub returns-in-4 : goal.returns-in-4
returns-in-4 c =
    item-register _ _ _ _ _ _ _ c.kind_at.ensures c.in-4.is c.declaration-in-4.ensures

pub returns-in-5 : goal.returns-in-5
returns-in-5 c =
    item-wire _ _ _ _ _ _ _ c.kind_at.ensures c.in-5.is c.declaration-in-5.ensures

pub returns-in-6 : goal.returns-in-6
returns-in-6 c =
    item-assign _ _ _ _ _ _ _ c.kind_at.ensures c.in-6.is (c.assigns.ensures _)

pub returns-in-7 : goal.returns-in-7
returns-in-7 c =
    item-always _ _ _ _ _ _ _ c.kind_at.ensures c.in-7.is (c.thread.ensures _)

pub returns-in_default : goal.returns-in_default
returns-in_default c =
    let r = c.in_default.in_default-own.rest in
    item-none _ _ _ _ _ _ _ c.kind_at.ensures r.0.0.0.0.1 r.0.0.0.1 r.0.0.1 r.0.1 r.1 c.refused.ensures
