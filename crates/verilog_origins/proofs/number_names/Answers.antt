-- `verilog_origins::number_names` meets its contract. Assumes nothing.
use mathlib.Core.Path.{refl}
use Rattle.verilog_origins.proofs.Origins.{names-whole}
use Rattle.verilog_origins.proofs.number_names.Goals as goal

pub returns : goal.returns
returns c =
    names-whole _ _ _ _ refl c.number.ensures c.read.ensures
    refl c.number-2.ensures
