-- `clock_check::judged_rows::rows_fit` meets its contract. The loop: the rows of the threads so far are in order. Assumes nothing.
use mathlib.Core.Path.{ap, ◌∙◌}
use Prim.Native.Nat.{ℕ, ◌+◌}
use native.Mathlib.Omega.{arith}
use lib.ListN.{get_or}
use Rattle.plan.specs.Plan.{plan_of}
use Rattle.plan_fitting.proofs.Loops.{all_none, All-more, all_done, all-fails}
use Rattle.clock_steps.specs.Taking.{at_most}
use Rattle.clock_steps.proofs.Numbers.{rows_none, rows_more}
use Rattle.clock_check.specs.Judging.{rows_fit_on}
use Rattle.clock_check.proofs.Tests.{thread-found}
use Rattle.clock_check.proofs.judged_rows.rows_fit.Invariants.{test}
use Rattle.clock_check.proofs.judged_rows.rows_fit.Goals as goal

pub loop-i-init : goal.loop-i-init
loop-i-init c =
    let a = c.args in (
      c.at_most-threads.ensures.value ∙ ap (at_most 8) c.threads.ensures,
      c.at_most-threads.ensures.upper_bound,
      omega arith,
      omega arith,
      rows_none (plan_of a.plan.now),
      c.requires,
      all_none (test a.plan.now a.written.now a.nodes.now a.rows.now a.sizes.now),
    )

pub offset_bounds-written-i : goal.offset_bounds-written-i
offset_bounds-written-i c =
    omega arith

pub bounds-written-i : goal.bounds-written-i
bounds-written-i c =
    omega arith

pub thread_rows_fit-requires : goal.thread_rows_fit-requires
thread_rows_fit-requires c =
    record { rest = c.loop-i.invariant.5; first_bound = omega arith }

pub returns-then-not-thread_rows_fit : goal.returns-then-not-thread_rows_fit
unfolding rows_fit_on
returns-then-not-thread_rows_fit c =
    let a = c.args in
    all-fails (test a.plan.now a.written.now a.nodes.now a.rows.now a.sizes.now) c.loop-i.i
    (at_most 8 (plan_of a.plan.now).threads) (omega arith)
    (thread-found (plan_of a.plan.now) a.sizes.now a.rows.now a.nodes.now c.loop-i.i
    (get_or a.written.now c.loop-i.i 0) c.loop-i.invariant.4
    c.thread_rows_fit.ensures (c.if-not-thread_rows_fit.true))

pub overflow_add-first : goal.overflow_add-first
overflow_add-first c =
    omega (arith, c.waits_in-first.ensures.upper_bound)

pub loop-i-preserved : goal.loop-i-preserved
loop-i-preserved c =
    let a = c.args in (
      c.loop-i.invariant.0,
      c.loop-i.invariant.1,
      omega arith,
      omega (arith, c.waits_in-first.ensures.upper_bound),
      rows_more (plan_of a.plan.now) c.loop-i.i c.loop-i.invariant.4 (ap (λ (n : ℕ). c.loop-i.first + n) c.waits_in-first.ensures.value),
      c.loop-i.invariant.5,
      All-more (test a.plan.now a.written.now a.nodes.now a.rows.now a.sizes.now) c.loop-i.i c.loop-i.invariant.6
          (thread-found (plan_of a.plan.now) a.sizes.now a.rows.now a.nodes.now c.loop-i.i
          (get_or a.written.now c.loop-i.i 0) c.loop-i.invariant.4
          c.thread_rows_fit.ensures (c.if-not-thread_rows_fit.false)),
    )

pub returns : goal.returns
unfolding rows_fit_on
returns c =
    let a = c.args in
    all_done (test a.plan.now a.written.now a.nodes.now a.rows.now a.sizes.now) c.loop-i.i
    (at_most 8 (plan_of a.plan.now).threads) (omega arith) (omega arith) c.loop-i.invariant.6
