-- `clock_run::values_fit` meets its contract. The loop's invariant: the values below `v` fit. Assumes nothing.
use mathlib.Core.Bool.{Bool, true}
use mathlib.Core.List.{List}
use mathlib.Core.Path.{◌≡◌}
use Prim.Native.Nat.{ℕ, ◌+◌, ◌≤◌}
use Rattle.values.specs.Values.{fits}
use Rattle.values.specs.Planes.{value_at}
use Rattle.state.specs.Rows.{all_below}
use Rattle.plan.specs.Plan.{plan_of}
use Rattle.clock_run.proofs.values_fit.Given as goal

abbrev pub test : List ℕ → ℕ → List ℕ → List ℕ → ℕ → ℕ → Bool
test plan from value unknown at v = fits ((plan_of plan).width (from + v)) (value_at value unknown (at + v))

abbrev pub invariant-loop-v : goal.invariant-loop-v
invariant-loop-v l =
    (l.v ≤ l.n) × (all_below l.v (test l.plan l.from l.value l.unknown l.at) ≡ true)
