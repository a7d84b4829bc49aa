-- `plan_fitting::values_fit` meets its contract. The loop's invariant: the values below `v` fit. Assumes nothing.
use borrow.Author.Tests.{not-true, not-false}
use mathlib.Core.Bool.{Bool, true}
use mathlib.Core.List.{List}
use mathlib.Core.Path.{◌≡◌}
use Prim.Native.Nat.{ℕ, ◌≤◌, ◌-◌}
use Rattle.values.specs.Values.{fits}
use Rattle.values.specs.Planes.{value_at}
use Rattle.events.specs.Cycle.{all_below}
use Rattle.plan.specs.Plan.{plan_of}
use Rattle.plan_fitting.proofs.Loops.{all_none, All-more, all_done, all-fails, value_found}
use borrow.Author.Rules.{rules}
use Rattle.plan_fitting.proofs.values_fit.Invariants.{test}
use Rattle.plan_fitting.proofs.values_fit.Goals as goal

pub loop-v-init : goal.loop-v-init
loop-v-init c =
    let p = c.args in
    (search rules, all_none (test p.plan.now p.value.now p.unknown.now))

pub returns-then-not-fits : goal.returns-then-not-fits
returns-then-not-fits c =
    let p = c.args in
    let t = c.if-not-fits.true in
    all-fails (test p.plan.now p.value.now p.unknown.now) c.loop-v.v p.n c.loop-v-test.true
    (value_found c.width.ensures c.value_at.ensures c.fits.ensures t)

pub loop-v-preserved : goal.loop-v-preserved
loop-v-preserved c =
    let p = c.args in
    let t = c.if-not-fits.false in (
      search rules,
      All-more (test p.plan.now p.value.now p.unknown.now) c.loop-v.v c.loop-v.invariant.1
          (value_found c.width.ensures c.value_at.ensures c.fits.ensures t),
    )

pub returns : goal.returns
returns c =
    let p = c.args in
    all_done (test p.plan.now p.value.now p.unknown.now) c.loop-v.v p.n
    c.loop-v.invariant.0 c.loop-v-test.false c.loop-v.invariant.1
