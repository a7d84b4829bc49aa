-- `verilog_origins::points::mark_at` meets its contract. Assumes nothing.
use mathlib.Core.Path.{refl}
use Rattle.verilog_origins.proofs.Pointing.{mark-other, mark-name}
use Rattle.verilog_origins.proofs.points.mark_at.Goals as goal

pub returns-then-kinds-i-ne64 : goal.returns-then-kinds-i-ne64
returns-then-kinds-i-ne64 c =
    mark-other _ _ _ _ c.if-kinds-i-ne64.true

pub returns : goal.returns
returns c =
    mark-name _ _ _ _ c.if-kinds-i-ne64.false refl c.part_of.ensures
