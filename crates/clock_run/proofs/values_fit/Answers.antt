-- `clock_run::values_fit` meets its contract. The loop's invariant: the values below `v` fit. Assumes nothing.
use native.Mathlib.Omega.{arith}
use Rattle.plan_fitting.proofs.Loops.{all_none, All-more, all_done, all-fails, value_found}
use Rattle.clock_run.specs.Running.{values_fit}
use Rattle.clock_run.proofs.values_fit.Invariants.{test}
use Rattle.clock_run.proofs.values_fit.Goals as goal

pub loop-v-init : goal.loop-v-init
loop-v-init c =
    let p = c.args in
    (omega arith, all_none (test p.plan.now p.from p.value.now p.unknown.now p.at))

pub returns-then-not-fits : goal.returns-then-not-fits
unfolding values_fit
returns-then-not-fits c =
    let p = c.args in
    let t = c.if-not-fits.true in
    all-fails (test p.plan.now p.from p.value.now p.unknown.now p.at) c.loop-v.v p.n c.loop-v-test.true
    (value_found c.width.ensures c.value_at.ensures c.fits.ensures t)

pub loop-v-preserved : goal.loop-v-preserved
loop-v-preserved c =
    let p = c.args in
    let t = c.if-not-fits.false in (
      omega arith,
      All-more (test p.plan.now p.from p.value.now p.unknown.now p.at) c.loop-v.v c.loop-v.invariant.1
          (value_found c.width.ensures c.value_at.ensures c.fits.ensures t),
    )

pub returns : goal.returns
unfolding values_fit
returns c =
    let p = c.args in
    all_done (test p.plan.now p.from p.value.now p.unknown.now p.at) c.loop-v.v p.n c.loop-v.invariant.0
    c.loop-v-test.false c.loop-v.invariant.1
