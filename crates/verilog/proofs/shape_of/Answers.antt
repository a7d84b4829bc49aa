-- `verilog::shape_of` meets its contract. Assumes nothing.
use Rattle.verilog.specs.Printing.{shape_of}
use Rattle.verilog.proofs.Printing.{shape-map, shape-single}
use Rattle.verilog.proofs.shape_of.Goals as goal

pub returns-then-map-ne12 : goal.returns-then-map-ne12
returns-then-map-ne12 c =
    shape-map _ _ c.if-map-ne12.true

pub returns-in-16 : goal.returns-in-16
unfolding shape_of
returns-in-16 c =
    rw (c.if-map-ne12.false, c.in-16.is)

pub returns-in-12 : goal.returns-in-12
unfolding shape_of
returns-in-12 c =
    rw (c.if-map-ne12.false, c.in-12.is)

pub returns-in_default : goal.returns-in_default
returns-in_default c =
    shape-single _ _ c.if-map-ne12.false c.in_default.in_default-own.rest.0.1 c.in_default.in_default-own.rest.1
