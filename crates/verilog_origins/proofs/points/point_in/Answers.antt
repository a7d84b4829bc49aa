-- `verilog_origins::points::point_in` meets its contract. Assumes nothing.
use Rattle.verilog_origins.proofs.Pointing.{point-none, point-other, point-name}
use Rattle.verilog_origins.proofs.points.point_in.Goals as goal

pub returns-then-i-ge65536 : goal.returns-then-i-ge65536
returns-then-i-ge65536 c =
    point-none _ _ _ _ _ _ _ c.read.ensures c.write_with.ensures c.write_with-2.ensures
    c.origin-item.ensures c.name_byte-i.ensures.0 c.if-i-ge65536.true

pub returns-then-origin-item : goal.returns-then-origin-item
returns-then-origin-item c =
    point-other _ _ _ _ _ _ _ c.read.ensures c.write_with.ensures c.write_with-2.ensures
    c.origin-item.ensures c.name_byte-i.ensures.0 c.if-i-ge65536.false c.origin.ensures
    c.if-origin-item.true

pub returns : goal.returns
returns c =
    point-name _ _ _ _ _ _ _ c.read.ensures c.write_with.ensures c.write_with-2.ensures
    c.origin-item.ensures c.name_byte-i.ensures.0 c.if-i-ge65536.false c.origin.ensures
    c.if-origin-item.false c.write_with-3.ensures c.write_with-4.ensures c.leaf_of.ensures
    c.place_at.ensures
