-- `clock_steps::take` meets its contract. The loop: the threads so far taken. Assumes nothing.
use mathlib.Core.Path.{◌≡◌}
use native.Mathlib.Omega.{arith}
use Rattle.plan.specs.Plan.{node_at}
use Rattle.clock_steps.proofs.Turns.{threads-none, threads_more}
use Rattle.clock_steps.proofs.take.Goals as goal

pub loop-i-init : goal.loop-i-init
loop-i-init c =
    (omega arith, threads-none (node_at c.args.lent.now) c.args.table.now c.args.numbers.now c.args.count _)

pub loop-i-preserved : goal.loop-i-preserved
loop-i-preserved c = (
  omega arith,
  threads_more (node_at c.args.lent.now)
      c.args.table.now
      c.args.numbers.now
      c.args.count _ _
      c.loop-i.invariant.1
      c.take_thread.ensures,
)

pub returns : goal.returns
returns c =
    let e : c.loop-i.i ≡ c.args.threads = omega arith in
    rw e at c.loop-i.invariant.1
