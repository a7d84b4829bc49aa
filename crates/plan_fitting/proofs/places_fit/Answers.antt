-- `plan_fitting::places_fit` meets its contract. The loop's invariant: the places below `i` fit. Assumes nothing.
use borrow.Author.Tests.{lt-ltb, le-ltb}
use mathlib.Core.Bool.{Bool, true}
use mathlib.Core.List.{List}
use mathlib.Core.Path.{◌≡◌}
use Prim.Native.Nat.{ℕ, ◌≤◌, ◌<◌, ◌-◌}
use native.Mathlib.Omega.{arith}
use lib.Dec.{ltb}
use lib.ListN.{get_or}
use Rattle.events.specs.Cycle.{all_below}
use Rattle.plan.specs.Plan.{plan_of}
use Rattle.plan_fitting.specs.Fitting.{places_fit}
use Rattle.plan_fitting.proofs.Loops.{all_none, All-more, all_done, all-fails}
use borrow.Author.Rules.{rules}
use Rattle.plan_fitting.proofs.places_fit.Invariants.{test}
use Rattle.plan_fitting.proofs.places_fit.Goals as goal

pub loop-i-init : goal.loop-i-init
loop-i-init c =
    let p = c.args in
    (c.threads-n.ensures, search rules, all_none (test p.plan.now p.places.now))

pub returns-then-size-byte_at : goal.returns-then-size-byte_at
unfolding places_fit
returns-then-size-byte_at c =
    let p = c.args in
    let place = get_or p.places.now c.loop-i.i 0 in
    let size = (plan_of p.plan.now).size c.loop-i.i in
    let e : size ≤ place = omega (arith, c.size.ensures, c.byte_at.ensures) in
    all-fails (test p.plan.now p.places.now) c.loop-i.i (plan_of p.plan.now).threads (omega arith)
    (le-ltb place size e)

pub loop-i-preserved : goal.loop-i-preserved
loop-i-preserved c =
    let p = c.args in
    let place = get_or p.places.now c.loop-i.i 0 in
    let size = (plan_of p.plan.now).size c.loop-i.i in
    let e : place < size = omega (arith, c.size.ensures, c.byte_at.ensures) in (
      c.loop-i.invariant.0,
      search rules,
      All-more (test p.plan.now p.places.now) c.loop-i.i c.loop-i.invariant.2 (lt-ltb place size e),
    )

pub returns : goal.returns
unfolding places_fit
returns c =
    let p = c.args in
    all_done (test p.plan.now p.places.now) c.loop-i.i (plan_of p.plan.now).threads (omega arith) (omega arith)
    c.loop-i.invariant.2
