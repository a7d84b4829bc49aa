-- `clock_check::judged_rows::thread_fits` meets its contract. The loop: the rows so far are in order. Assumes nothing.
use mathlib.Core.Path.{ap, ◌∙◌}
use native.Mathlib.Omega.{arith}
use Rattle.plan.specs.Plan.{plan_of}
use Rattle.plan_fitting.proofs.Loops.{all_none, All-more, all_done, all-fails}
use Rattle.clock_steps.specs.Taking.{at_most}
use Rattle.clock_steps.proofs.Numbers.{waits-none, waits-more, from-small}
use Rattle.clock_check.specs.Judging.{thread_fits_on}
use Rattle.clock_check.proofs.Tests.{wait-found}
use Rattle.clock_check.proofs.judged_rows.thread_fits.Invariants.{test}
use Rattle.clock_check.proofs.judged_rows.thread_fits.Goals as goal

pub loop-p-init : goal.loop-p-init
loop-p-init c =
    let a = c.args in (
      c.at_most-n.ensures.value ∙ ap (at_most 256) c.size.ensures,
      c.at_most-n.ensures.upper_bound,
      omega arith,
      omega (arith, c.requires),
      waits-none (plan_of a.plan.now) a.i a.first,
      all_none (test a.plan.now a.sizes.now a.rows.now a.written a.marks.now a.i a.first),
    )

pub returns-then-not-wait_fits : goal.returns-then-not-wait_fits
unfolding thread_fits_on
returns-then-not-wait_fits c =
    let a = c.args in
    all-fails (test a.plan.now a.sizes.now a.rows.now a.written a.marks.now a.i a.first) c.loop-p.p
    (at_most 256 ((plan_of a.plan.now).size a.i)) (omega arith)
    (wait-found (plan_of a.plan.now) a.sizes.now a.rows.now a.written a.marks.now a.i a.first c.loop-p.p
    c.loop-p.invariant.4
    c.waits-waits.ensures c.wait_fits.ensures (c.if-not-wait_fits.true))

pub overflow_add-row : goal.overflow_add-row
overflow_add-row c =
    omega (arith, c.from-row.ensures, from-small c.waits-waits.result)

pub loop-p-preserved : goal.loop-p-preserved
loop-p-preserved c =
    let a = c.args in (
      c.loop-p.invariant.0,
      c.loop-p.invariant.1,
      omega arith,
      omega (arith, c.from-row.ensures, from-small c.waits-waits.result),
      waits-more (plan_of a.plan.now) a.i a.first _ c.loop-p.invariant.4 c.waits-waits.ensures
          c.from-row.ensures,
      All-more (test a.plan.now a.sizes.now a.rows.now a.written a.marks.now a.i a.first) c.loop-p.p
          c.loop-p.invariant.5
          (wait-found (plan_of a.plan.now) a.sizes.now a.rows.now a.written a.marks.now a.i a.first c.loop-p.p
          c.loop-p.invariant.4
          c.waits-waits.ensures c.wait_fits.ensures
          (c.if-not-wait_fits.false)),
    )

pub returns : goal.returns
unfolding thread_fits_on
returns c =
    let a = c.args in
    all_done (test a.plan.now a.sizes.now a.rows.now a.written a.marks.now a.i a.first) c.loop-p.p
    (at_most 256 ((plan_of a.plan.now).size a.i)) (omega arith) (omega arith) c.loop-p.invariant.5
