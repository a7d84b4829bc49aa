-- `verilog_names::faults::see` meets its contract. The loop's invariant: what is still to be marked gives the whole. Assumes nothing.
use Rattle.verilog_names.proofs.Chosen.{chosen-all}
use Rattle.verilog_names.proofs.Marking.{marking-turn, marking-over}
use Rattle.verilog_names.proofs.faults.see.Goals as goal

pub loop-i-init : goal.loop-i-init
loop-i-init c =
    rw chosen-all

pub loop-i-preserved : goal.loop-i-preserved
loop-i-preserved c =
    marking-turn _ _ _ _ _ _ _ c.loop-i-test.true c.see_at.ensures c.loop-i.invariant

pub returns : goal.returns
returns c =
    marking-over _ _ _ _ _ _ c.loop-i-test.false c.loop-i.invariant
