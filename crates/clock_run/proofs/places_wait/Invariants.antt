-- `clock_run::places_wait` meets its contract. The loop's invariant: the threads below `i` wait. Assumes nothing.
use mathlib.Core.Bool.{Bool, true}
use mathlib.Core.List.{List}
use mathlib.Core.Path.{◌≡◌}
use Prim.Native.Nat.{ℕ, ◌≤◌}
use lib.ListN.{get_or}
use Rattle.state.specs.Rows.{all_below}
use Rattle.plan.specs.Plan.{plan_of}
use Rattle.clock_steps.specs.Taking.{at_most}
use Rattle.clock_run.specs.Running.{waits_at}
use Rattle.clock_run.proofs.places_wait.Given as goal

abbrev pub test : List ℕ → List ℕ → ℕ → Bool
test plan places i = waits_at (plan_of plan) i (get_or places i 0)

abbrev pub invariant-loop-i : goal.invariant-loop-i
invariant-loop-i l =
    (l.n ≡ at_most 8 (plan_of l.plan).threads) × (l.n ≤ 8) × (l.i ≤ l.n) × (all_below l.i (test l.plan l.places) ≡ true)
