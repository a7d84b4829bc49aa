-- `verilog_origins::items::item_in` meets its contract, item by item. Assumes nothing.
use Rattle.verilog_origins.proofs.Placing.{of-variable, of-assign, of-thread, of-wait}
use Rattle.verilog_origins.proofs.items.item_in.Goals as goal

pub returns-in-Variable : goal.returns-in-Variable
returns-in-Variable c =
    of-variable _ _ _ _ _ _ c.in-Variable.is c.variable_place.ensures

pub returns-in-Assign : goal.returns-in-Assign
returns-in-Assign c =
    of-assign _ _ _ _ _ _ c.in-Assign.is c.target_for.ensures c.place_at.ensures

pub returns-in-Thread : goal.returns-in-Thread
returns-in-Thread c =
    of-thread _ _ _ _ _ _ c.in-Thread.is c.nth_of.ensures c.place_at-in-Thread.ensures

pub returns-in-Wait : goal.returns-in-Wait
returns-in-Wait c =
    of-wait _ _ _ _ _ _ c.in-Wait.is c.nth_of-in-Wait.ensures c.place_at-in-Wait.ensures
