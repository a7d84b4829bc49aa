-- `plan_fitting::values_fit` meets its contract. The loop's invariant: the values below `v` fit. Assumes nothing.
use borrow.Author.Tests.{not-true, not-false}
use mathlib.Core.Bool.{Bool, true}
use mathlib.Core.List.{List}
use mathlib.Core.Path.{◌≡◌}
use Prim.Native.Nat.{ℕ, ◌≤◌}
use Rattle.values.specs.Values.{fits}
use Rattle.values.specs.Planes.{value_at}
use Rattle.events.specs.Cycle.{all_below}
use Rattle.plan.specs.Plan.{plan_of}
use Rattle.plan_fitting.proofs.Loops.{all_none, All-more, all_done, all-fails, value_found}
use borrow.Author.Rules.{rules}
use Rattle.plan_fitting.proofs.values_fit.Given as goal

abbrev pub test : List ℕ → List ℕ → List ℕ → ℕ → Bool
test plan value unknown v = fits ((plan_of plan).width v) (value_at value unknown v)

abbrev pub invariant-loop-v : goal.invariant-loop-v
invariant-loop-v l =
    (l.v ≤ l.n) × (all_below l.v (test l.plan l.value l.unknown) ≡ true)
