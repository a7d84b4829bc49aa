-- `cycles::joined` meets its contract. The loop: the threads so far joined. Assumes nothing.
use native.Mathlib.Omega.{arith}
use Rattle.cycles.proofs.Masks.{joined-none, joined-more, joined-all}
use Rattle.cycles.proofs.joined.Goals as goal

pub loop-i-init : goal.loop-i-init
loop-i-init c =
    (omega arith, joined-none c.args.plain.now c.args.later.now)

pub loop-i-preserved : goal.loop-i-preserved
loop-i-preserved c =
    let given_args = c.args in
    let the-loop = c.loop-i in
    (omega arith, joined-more given_args.plain.now given_args.later.now the-loop.i the-loop.out c.union.result c.loop-i-test.true the-loop.invariant.1 c.union.ensures)

pub returns : goal.returns
returns c =
    let given_args = c.args in
    joined-all given_args.plain.now given_args.later.now c.loop-i.i c.loop-i.out (omega arith) c.loop-i.invariant.1
