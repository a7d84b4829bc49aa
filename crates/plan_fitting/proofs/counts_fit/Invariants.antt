-- `plan_fitting::counts_fit` meets its contract. The loop's invariant: the counts below `u` fit. Assumes nothing.
use mathlib.Core.Bool.{Bool, true}
use mathlib.Core.Path.{◌≡◌}
use Prim.Native.Nat.{ℕ, ◌≤◌}
use native.Mathlib.Omega.{arith}
use lib.Dec.{leb}
use lib.ListN.{get_or}
use Rattle.state.specs.declared.Counters.{Counters}
use Rattle.events.specs.Cycle.{all_below}
use Rattle.plan_fitting.specs.Fitting.{counts_fit}
use Rattle.plan_fitting.proofs.Loops.{all_none, All-more, all_done, all-fails}
use borrow.Author.Rules.{rules}
use borrow.Author.Tests.{le-leb, lt-leb}
use Rattle.plan_fitting.proofs.counts_fit.Given as goal

abbrev pub test : Counters → ℕ → Bool
test c u = leb (get_or c.counts u 0) (get_or c.allowances u 0)

abbrev pub invariant-loop-u : goal.invariant-loop-u
invariant-loop-u l =
    (l.u ≤ 4) × (all_below l.u (test l.c) ≡ true)
