-- `verilog::is_flat` meets its contract. Assumes nothing.
use Rattle.verilog.specs.Printing.{flat}
use Rattle.verilog.proofs.Printing.{flat-other}
use Rattle.verilog.proofs.is_flat.Goals as goal

pub returns-then-shape-eq12 : goal.returns-then-shape-eq12
unfolding flat
returns-then-shape-eq12 c =
    rw c.if-shape-eq12.true

pub returns-then-shape-eq44 : goal.returns-then-shape-eq44
unfolding flat
returns-then-shape-eq44 c =
    rw c.if-shape-eq44.true

pub returns : goal.returns
returns c =
    flat-other _ _ c.if-shape-eq12.false c.if-shape-eq44.false
