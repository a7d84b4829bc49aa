-- `verilog_names::head::put_widths` meets its contract. The loop's invariant: what is still to be put gives the whole.
-- Assumes nothing.
use Rattle.verilog_names.proofs.Chosen.{chosen-all}
use Rattle.verilog_names.proofs.Heading.{widths-turn, widths-over}
use Rattle.verilog_names.proofs.head.put_widths.Goals as goal

pub loop-i-init : goal.loop-i-init
loop-i-init c =
    rw chosen-all

pub loop-i-preserved : goal.loop-i-preserved
loop-i-preserved c =
    widths-turn _ _ _ _ _ _ _ c.loop-i-test.true c.put_width-p.ensures c.loop-i.invariant

pub returns : goal.returns
returns c =
    widths-over _ _ _ _ _ _ c.loop-i-test.false c.loop-i.invariant
