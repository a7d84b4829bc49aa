-- `clock_steps::number_thread` meets its contract. The loop: the waits so far counted, the places so far numbered. Assumes nothing.
use native.Mathlib.Omega.{arith}
use Rattle.plan.specs.Plan.{plan_of}
use Rattle.clock_steps.proofs.Numbers.{waits-none, waits-more, number-none, number_more, number-all, waits-all, from-small}
use Rattle.clock_steps.proofs.number_thread.Goals as goal

pub loop-p-init : goal.loop-p-init
loop-p-init c =
    let a = c.args in (
      omega arith,
      omega (arith, c.at_most-n.ensures.upper_bound),
      omega arith,
      waits-none (plan_of a.plan.now) a.i a.first,
      number-none (plan_of a.plan.now) a.i a.first _,
    )

pub loop-p-preserved : goal.loop-p-preserved
loop-p-preserved c =
    let a = c.args in (
      omega arith,
      omega arith,
      omega (arith, c.from-k.ensures, from-small c.waits.result),
      waits-more (plan_of a.plan.now) a.i a.first _ c.loop-p.invariant.3
          c.waits.ensures c.from-k.ensures,
      number_more (plan_of a.plan.now) a.i a.first _ _ c.loop-p.invariant.4
          c.loop-p.invariant.3,
    )

pub returns : goal.returns
returns c =
    let a = c.args in
    record {
      numbers_after =
          number-all (plan_of a.plan.now) a.i a.first _ _ c.size.ensures
          c.at_most-n.ensures.value (omega arith) c.loop-p.invariant.4;
      value =
          waits-all (plan_of a.plan.now) a.i a.first _ c.size.ensures
          c.at_most-n.ensures.value (omega arith) c.loop-p.invariant.3;
      upper_bound = omega arith;
    }
