-- `clock_run::places_wait` meets its contract. The loop's invariant: the threads below `i` wait. Assumes nothing.
use mathlib.Core.Path.{sym, ap, ◌∙◌}
use native.Mathlib.Omega.{arith}
use Rattle.plan.specs.Plan.{plan_of}
use Rattle.plan_fitting.proofs.Loops.{all_none, All-more, all_done, all-fails}
use Rattle.clock_steps.specs.Taking.{at_most}
use Rattle.clock_run.specs.Running.{places_wait}
use Rattle.clock_run.proofs.places_wait.Invariants.{test}
use Rattle.clock_run.proofs.places_wait.Goals as goal

pub loop-i-init : goal.loop-i-init
loop-i-init c =
    let p = c.args in (
      c.at_most-n.ensures.value ∙ ap (at_most 8) c.threads.ensures,
      c.at_most-n.ensures.upper_bound,
      omega arith,
      all_none (test p.plan.now p.places.now),
    )

pub returns-then-not-waits_at : goal.returns-then-not-waits_at
unfolding places_wait
returns-then-not-waits_at c =
    let p = c.args in
    let t = c.if-not-waits_at.true in
    all-fails (test p.plan.now p.places.now) c.loop-i.i (at_most 8 (plan_of p.plan.now).threads) (omega arith)
    (sym c.waits_at.ensures ∙ t)

pub loop-i-preserved : goal.loop-i-preserved
loop-i-preserved c =
    let p = c.args in
    let t = c.if-not-waits_at.false in (
      c.loop-i.invariant.0,
      c.loop-i.invariant.1,
      omega arith,
      All-more (test p.plan.now p.places.now) c.loop-i.i c.loop-i.invariant.3 (sym c.waits_at.ensures ∙ t),
    )

pub returns : goal.returns
unfolding places_wait
returns c =
    let p = c.args in
    all_done (test p.plan.now p.places.now) c.loop-i.i (at_most 8 (plan_of p.plan.now).threads) (omega arith) (omega arith)
    c.loop-i.invariant.3
