-- `verilog_origins::points::mark` meets its contract. The loop's invariant: what is still to be stored gives the whole.
-- Assumes nothing.
use mathlib.Core.Path.{refl}
use Rattle.verilog_origins.proofs.Pointing.{marks-all, marks-turn, marks-over}
use Rattle.verilog_origins.proofs.points.mark.Goals as goal

pub loop-i-init : goal.loop-i-init
loop-i-init c =
    marks-all _ _ _ _

pub loop-i-preserved : goal.loop-i-preserved
loop-i-preserved c =
    marks-turn _ _ _ _ _ _ _ _ c.loop-i-test.true c.mark_at.ensures refl c.loop-i.invariant

pub returns : goal.returns
returns c =
    marks-over _ _ _ _ _ _ c.loop-i-test.false c.loop-i.invariant
