-- `clock_nodes::low_nodes` meets its contract. The loop: the nodes so far noted. Assumes nothing.
use native.Mathlib.Omega.{arith}
use Rattle.clock_nodes.proofs.Turns.{lows-past, lows-none, lows-more, lows-within}
use Rattle.clock_nodes.proofs.low_nodes.Goals as goal

pub returns-then-count-gt4096 : goal.returns-then-count-gt4096
returns-then-count-gt4096 c =
    lows-past c.args.nodes.now _ _ c.if-count-gt4096.true

pub loop-n-init : goal.loop-n-init
loop-n-init c =
    (omega arith, omega arith, lows-none c.args.nodes.now _)

pub loop-n-preserved : goal.loop-n-preserved
loop-n-preserved c =
    let a = c.args in
    (omega arith, omega arith, lows-more a.nodes.now _ _ c.loop-n.invariant.2 c.low_node.ensures)

pub returns : goal.returns
returns c =
    lows-within c.args.nodes.now _ _ _ (omega arith) (omega arith) c.loop-n.invariant.2
