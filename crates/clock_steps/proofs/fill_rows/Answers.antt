-- `clock_steps::fill_rows` meets its contract. The loop: the threads so far numbered, their rows filled. Assumes nothing.
use native.Mathlib.Omega.{arith}
use Rattle.plan.specs.Plan.{plan_of}
use Rattle.clock_steps.proofs.Numbers.{rows_none, rows_more, numbers-none, numbers_more, numbers-all, below_none, below_more}
use Rattle.clock_steps.proofs.Numbers.{below_all}
use Rattle.clock_steps.proofs.fill_rows.Goals as goal

pub loop-i-init : goal.loop-i-init
loop-i-init c =
    let a = c.args in (
      omega arith,
      omega (arith, c.at_most-threads.ensures.upper_bound),
      omega arith,
      rows_none (plan_of a.plan.now),
      numbers-none (plan_of a.plan.now) _,
      below_none a.nodes.now a.lows.now a.rows.now (plan_of a.plan.now) a.written.now _,
    )

pub loop-i-preserved : goal.loop-i-preserved
loop-i-preserved c =
    let a = c.args in
    let q = plan_of a.plan.now in
    let n = c.number_thread-next.ensures in (
      omega arith,
      omega arith,
      omega (arith, n.upper_bound),
      rows_more q _ c.loop-i.invariant.3 n.value,
      numbers_more q _ _ c.loop-i.invariant.3 c.loop-i.invariant.4 n.numbers_after,
      below_more a.nodes.now a.lows.now a.rows.now q a.written.now _ _ c.loop-i.invariant.5 c.loop-i.invariant.3 n.value
          c.fill_thread.ensures,
    )

pub returns : goal.returns
returns c =
    let a = c.args in
    let q = plan_of a.plan.now in
    let t = c.threads.ensures in
    let n = c.at_most-threads.ensures.value in
    record {
      numbers_after = numbers-all q _ _ t n (omega arith) c.loop-i.invariant.4;
      table_after = below_all a.nodes.now a.lows.now a.rows.now q a.written.now _ _ t n (omega arith) c.loop-i.invariant.5;
    }
