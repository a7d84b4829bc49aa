-- `plan_fitting::places_fit` meets its contract. The loop's invariant: the places below `i` fit. Assumes nothing.
use borrow.Author.Tests.{lt-ltb, le-ltb}
use mathlib.Core.Bool.{Bool, true}
use mathlib.Core.List.{List}
use mathlib.Core.Path.{◌≡◌}
use Prim.Native.Nat.{ℕ, ◌≤◌}
use native.Mathlib.Omega.{arith}
use lib.Dec.{ltb}
use lib.ListN.{get_or}
use Rattle.events.specs.Cycle.{all_below}
use Rattle.plan.specs.Plan.{plan_of}
use Rattle.plan_fitting.specs.Fitting.{places_fit}
use Rattle.plan_fitting.proofs.Loops.{all_none, All-more, all_done, all-fails}
use borrow.Author.Rules.{rules}
use Rattle.plan_fitting.proofs.places_fit.Given as goal

abbrev pub test : List ℕ → List ℕ → ℕ → Bool
test plan places i = ltb (get_or places i 0) ((plan_of plan).size i)

abbrev pub invariant-loop-i : goal.invariant-loop-i
invariant-loop-i l =
    (l.n ≡ (plan_of l.plan).threads) × (l.i ≤ l.n) × (all_below l.i (test l.plan l.places) ≡ true)
