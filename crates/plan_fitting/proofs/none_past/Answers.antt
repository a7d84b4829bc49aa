-- `plan_fitting::none_past` meets its contract. The loop's invariant: none is up from place `n` on and before `k`. Assumes nothing.
use mathlib.Core.Bool.{Bool, true, false, not}
use mathlib.Core.List.{List}
use mathlib.Core.Path.{◌≡◌}
use Prim.Native.Nat.{ℕ, ◌+◌, ◌≤◌, ◌-◌}
use native.Mathlib.Omega.{arith}
use lib.ListN.{get_or}
use Rattle.events.specs.Cycle.{all_below}
use Rattle.plan_fitting.specs.Fitting.{none_past}
use Rattle.plan_fitting.proofs.Loops.{all_none, All-more, all_done, all-fails}
use borrow.Author.Rules.{rules}
use Rattle.plan_fitting.proofs.none_past.Invariants.{test}
use Rattle.plan_fitting.proofs.none_past.Goals as goal

pub loop-k-init : goal.loop-k-init
loop-k-init c =
    let p = c.args in
    let e : p.n - p.n ≡ 0 = omega arith in
    (omega arith, omega arith, rw e (all_none (test p.flags.now p.n)))

pub returns-then-flags-k : goal.returns-then-flags-k
unfolding none_past
returns-then-flags-k c =
    let p = c.args in
    let k = c.loop-k.k in
    let e : p.n + (k - p.n) ≡ k = omega arith in
    all-fails (test p.flags.now p.n) (k - p.n) (32 - p.n) (omega arith) (rw (e, c.if-flags-k.true))

pub loop-k-preserved : goal.loop-k-preserved
loop-k-preserved c =
    let p = c.args in
    let k = c.loop-k.k in
    let e : p.n + (k - p.n) ≡ k = omega arith in
    let s : k + 1 - p.n ≡ k - p.n + 1 = omega arith in
    let all = All-more (test p.flags.now p.n) (k - p.n) c.loop-k.invariant.2 (rw (e, c.if-flags-k.false)) in
    (omega arith, omega arith, rw s all)

pub returns : goal.returns
unfolding none_past
returns c =
    let p = c.args in
    all_done (test p.flags.now p.n) (c.loop-k.k - p.n) (32 - p.n) c.loop-k.invariant.1 (omega arith) c.loop-k.invariant.2
