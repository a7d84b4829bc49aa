-- `verilog_origins::points::point` meets its contract. Assumes nothing.
use Rattle.verilog_origins.proofs.Pointing.{point-whole}
use Rattle.verilog_origins.proofs.points.point.Goals as goal

pub returns : goal.returns
returns c =
    point-whole _ _ c.scan.ensures c.short-count.ensures c.number_names.ensures
    c.point_in.ensures
