-- `clock_nodes::copy_nodes` meets its contract. The loop: the nodes so far copied. Assumes nothing.
use native.Mathlib.Omega.{arith}
use Rattle.clock_nodes.proofs.Turns.{copy-past, copy-none, copy_more, copy_within}
use Rattle.clock_nodes.proofs.copy_nodes.Goals as goal

pub returns-then-count-gt4096 : goal.returns-then-count-gt4096
returns-then-count-gt4096 c =
    copy-past c.args.nodes.now c.args.sizes.now _ _ c.if-count-gt4096.true

pub loop-n-init : goal.loop-n-init
loop-n-init c =
    let a = c.args in
    (omega arith, omega arith, copy-none a.nodes.now a.sizes.now _)

pub loop-n-preserved : goal.loop-n-preserved
loop-n-preserved c =
    let a = c.args in (
      omega arith,
      omega arith,
      copy_more a.nodes.now a.sizes.now _ _ c.loop-n.invariant.2
          c.copy_node.ensures,
    )

pub returns : goal.returns
returns c =
    let a = c.args in
    copy_within a.nodes.now a.sizes.now _ _ _ (omega arith) (omega arith) c.loop-n.invariant.2
