-- `clock_steps::settle` meets its contract. The loop: the wires so far settled. Assumes nothing.
use native.Mathlib.Omega.{arith}
use Rattle.plan.specs.Plan.{plan_of}
use Rattle.clock_steps.proofs.Turns.{settle-none, settle-more, settle-all}
use Rattle.clock_steps.proofs.settle.Goals as goal

pub loop-k-init : goal.loop-k-init
loop-k-init c =
    (omega arith, omega (arith, c.wires-wires.ensures), settle-none (plan_of c.args.plan.now) _)

pub loop-k-preserved : goal.loop-k-preserved
loop-k-preserved c =
    let a = c.args in
    (omega arith, omega arith, settle-more (plan_of a.plan.now) _ _ c.loop-k.invariant.2 c.settle_wire.ensures)

pub returns : goal.returns
returns c =
    settle-all (plan_of c.args.plan.now) _ _ c.wires-wires.ensures (omega arith)
    c.loop-k.invariant.2
