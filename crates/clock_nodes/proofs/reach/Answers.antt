-- `clock_nodes::reach` meets its contract. The loop: the entries so far are reached. Assumes nothing.
use native.Mathlib.Omega.{arith}
use Rattle.clock_nodes.proofs.Reaching.{reaching-none, reaching-more, reached}
use Rattle.clock_nodes.proofs.reach.Goals as goal

pub loop-entry-init : goal.loop-entry-init
loop-entry-init c =
    (omega arith, reaching-none _)

pub loop-entry-preserved : goal.loop-entry-preserved
loop-entry-preserved c =
    let l = c.loop-entry in
    (omega arith, reaching-more _ l.entry-index l.n c.further-n.result l.invariant.1 c.further-n.ensures)

pub returns : goal.returns
returns c =
    reached _ c.loop-entry.entry-index _ c.loop-entry.invariant.0 c.loop-entry-test.false c.loop-entry.invariant.1
