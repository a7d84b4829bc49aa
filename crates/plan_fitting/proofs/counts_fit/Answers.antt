-- `plan_fitting::counts_fit` meets its contract. The loop's invariant: the counts below `u` fit. Assumes nothing.
use mathlib.Core.Bool.{Bool, true}
use mathlib.Core.Path.{◌≡◌}
use Prim.Native.Nat.{ℕ, ◌≤◌, ◌-◌}
use native.Mathlib.Omega.{arith}
use lib.Dec.{leb}
use lib.ListN.{get_or}
use Rattle.state.specs.declared.Counters.{Counters}
use Rattle.events.specs.Cycle.{all_below}
use Rattle.plan_fitting.specs.Fitting.{counts_fit}
use Rattle.plan_fitting.proofs.Loops.{all_none, All-more, all_done, all-fails}
use borrow.Author.Rules.{rules}
use borrow.Author.Tests.{le-leb, lt-leb}
use Rattle.plan_fitting.proofs.counts_fit.Invariants.{test}
use Rattle.plan_fitting.proofs.counts_fit.Goals as goal

pub loop-u-init : goal.loop-u-init
loop-u-init c =
    (omega arith, all_none (test c.args.c))

pub returns-then-c-u : goal.returns-then-c-u
unfolding counts_fit
returns-then-c-u c =
    let p = c.args.c in
    let u = c.loop-u.u in
    all-fails (test p) u 4 (omega arith) (lt-leb _ _ c.if-c-u.true)

pub loop-u-preserved : goal.loop-u-preserved
loop-u-preserved c =
    let p = c.args.c in
    let u = c.loop-u.u in
    (omega arith, All-more (test p) u c.loop-u.invariant.1 (le-leb _ _ c.if-c-u.false))

pub returns : goal.returns
unfolding counts_fit
returns c =
    let p = c.args.c in
    all_done (test p) c.loop-u.u 4 c.loop-u.invariant.0 (omega arith) c.loop-u.invariant.1
