-- `clock_check::judged_rows::waits_in` meets its contract. The loop: the waits so far are counted. Assumes nothing.
use native.Mathlib.Omega.{arith}
use Rattle.plan.specs.Plan.{plan_of}
use Rattle.clock_steps.proofs.Numbers.{waits-none, waits-more, waits-all, from-small}
use Rattle.clock_check.proofs.judged_rows.waits_in.Goals as goal

pub loop-p-init : goal.loop-p-init
loop-p-init c =
    let a = c.args in
    (omega arith, omega (arith, c.at_most-n.ensures.upper_bound), omega arith, waits-none (plan_of a.plan.now) a.i 0)

pub overflow_add-k : goal.overflow_add-k
overflow_add-k c =
    omega (arith, c.from-k.ensures, from-small c.waits.result)

pub loop-p-preserved : goal.loop-p-preserved
loop-p-preserved c =
    let a = c.args in (
      omega arith,
      omega arith,
      omega (arith, c.from-k.ensures, from-small c.waits.result),
      waits-more (plan_of a.plan.now) a.i 0 _ c.loop-p.invariant.3 c.waits.ensures c.from-k.ensures,
    )

pub returns : goal.returns
returns c =
    let a = c.args in
    let e =
    waits-all (plan_of a.plan.now) a.i 0 _ c.size.ensures c.at_most-n.ensures.value (omega arith)
    c.loop-p.invariant.3 in
    (record { value = omega (arith, e); upper_bound = omega arith })
