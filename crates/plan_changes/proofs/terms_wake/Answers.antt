-- `plan_changes::terms_wake` meets its contract. The loop: none of the terms so far fires.
use native.Mathlib.Omega.{arith}
use mathlib.Core.Path.{◌≡◌, refl, sym, ◌∙◌}
use Rattle.events.specs.Cycle.{any_below}
use Rattle.events.proofs.Cycle.{any-below}
use Rattle.plan_changes.proofs.Changes.{any-more}
use Rattle.plan_changes.proofs.terms_wake.Goals as goal

pub loop-k-init : goal.loop-k-init
unfolding any_below
loop-k-init c =
    (omega arith, refl)

pub returns-then-term_wakes : goal.returns-then-term_wakes
returns-then-term_wakes c =
    sym (any-below _ c.args.count c.loop-k.k c.loop-k-test.true
    (sym c.term_wakes.ensures ∙ c.if-term_wakes.true))

pub loop-k-preserved : goal.loop-k-preserved
loop-k-preserved c =
    (omega arith, rw (any-more c.loop-k.k, c.loop-k.invariant.1, sym c.term_wakes.ensures ∙ c.if-term_wakes.false))

pub returns : goal.returns
returns c =
    let e : c.args.count ≡ c.loop-k.k = omega arith in
    rw e (sym c.loop-k.invariant.1)
