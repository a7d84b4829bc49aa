-- `masked::first_marked` meets its contract. The loop's invariant: the test holds of no number below `k`. Assumes nothing.
use mathlib.Core.Path.{◌≡◌}
use mathlib.Core.Bool.{false}
use Prim.Native.Nat.{◌-◌, ◌≤◌}
use native.Mathlib.Omega.{arith}
use Rattle.events.specs.Cycle.{any_below}
use Rattle.rules.proofs.Tests.{any-start, any-turn}
use Rattle.witness.specs.Seeking.{by_marks}
use Rattle.witness.proofs.Lowest.{lowest-found, lowest-end}
use borrow.Author.Rules.{rules}
use Rattle.witness.proofs.masked.first_marked.Goals as goal

pub loop-k-init : goal.loop-k-init
loop-k-init c =
    (search rules, any-start _)

pub returns-then-by_marks : goal.returns-then-by_marks
returns-then-by_marks c =
    record { value = lowest-found _ _ _ c.loop-k-test.true c.loop-k.invariant.1 c.by_marks.ensures c.if-by_marks.true; upper_bound = omega arith }

pub loop-k-preserved : goal.loop-k-preserved
loop-k-preserved c =
    (omega arith, any-turn _ _ c.loop-k.invariant.1 c.by_marks.ensures c.if-by_marks.false)

pub returns : goal.returns
returns c =
    record { value = lowest-end _ c.args.n c.loop-k.k c.loop-k.invariant.1 (omega arith); upper_bound = omega arith }
