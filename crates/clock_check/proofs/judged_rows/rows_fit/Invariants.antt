-- `clock_check::judged_rows::rows_fit` meets its contract. The loop: the rows of the threads so far are in order. Assumes nothing.
use mathlib.Core.Path.{◌≡◌}
use mathlib.Core.Bool.{Bool, true}
use mathlib.Core.List.{List}
use Prim.Native.Nat.{ℕ, ◌*◌, ◌≤◌}
use lib.ListN.{get_or}
use Rattle.state.specs.Rows.{all_below}
use Rattle.plan.specs.Plan.{plan_of}
use Rattle.clock_steps.specs.Taking.{at_most}
use Rattle.clock_steps.specs.Numbers.{rows_to}
use Rattle.clock_check.specs.Judging.{wait_of, lands_below, thread_fits_on, Rest}
use Rattle.clock_check.proofs.judged_rows.rows_fit.Given as goal

abbrev pub test : List ℕ → List ℕ → List ℕ → List ℕ → List ℕ → ℕ → Bool
test plan written nodes rows sizes i =
    thread_fits_on (plan_of plan) sizes rows (get_or written i 0) (lands_below (wait_of (plan_of plan) i) nodes 4096) i (rows_to (plan_of plan) i)

abbrev pub invariant-loop-i : goal.invariant-loop-i
invariant-loop-i l =
    (l.threads ≡ at_most 8 (plan_of l.plan).threads)
    × (l.threads ≤ 8)
    × (l.i ≤ l.threads)
    × (l.first ≤ 256 * l.i)
    × (l.first ≡ rows_to (plan_of l.plan) l.i)
    × Rest l.nodes l.used
    × (all_below l.i (test l.plan l.written l.nodes l.rows l.sizes) ≡ true)
