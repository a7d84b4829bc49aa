-- `verilog_origins::origin` meets its contract. Assumes nothing.
use Rattle.verilog_origins.proofs.Origins.{origin-whole}
use Rattle.verilog_origins.proofs.origin.Goals as goal

pub returns : goal.returns
returns c =
    origin-whole _ _ c.scan.ensures c.short-count.ensures c.number_names.ensures
    c.item_place.ensures
