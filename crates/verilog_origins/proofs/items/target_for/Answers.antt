-- `verilog_origins::items::target_for` meets its contract. Assumes nothing.
use mathlib.Core.Path.{refl}
use Rattle.verilog_origins.proofs.Placing.{target-for}
use Rattle.verilog_origins.proofs.items.target_for.Goals as goal

pub returns : goal.returns
returns c =
    target-for _ _ _ _ c.nth_of.ensures c.number_at-id.ensures
    refl c.target_of.ensures
