-- `verilog_origins::items::place_of` meets its contract. Assumes nothing.
use Rattle.verilog_origins.proofs.Placing.{place-whole}
use Rattle.verilog_origins.proofs.items.place_of.Goals as goal

pub returns : goal.returns
returns c =
    place-whole _ _ c.scan.ensures c.short-count.ensures c.read.ensures c.item_in.ensures
