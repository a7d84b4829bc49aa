-- `clock_check::judged_rows::thread_fits` meets its contract. The loop: the rows so far are in order. Assumes nothing.
use mathlib.Core.Path.{◌≡◌}
use mathlib.Core.Bool.{Bool, true, not, ◌||◌}
use mathlib.Core.List.{List}
use Prim.Native.Nat.{ℕ, ◌+◌, ◌≤◌}
use Rattle.state.specs.Rows.{all_below}
use Rattle.plan.specs.Plan.{plan_of}
use Rattle.clock_steps.specs.Taking.{at_most}
use Rattle.clock_steps.specs.Numbers.{waits_to}
use Rattle.clock_check.specs.Judging.{row_fits_on}
use Rattle.clock_check.proofs.judged_rows.thread_fits.Given as goal

abbrev pub test : List ℕ → List ℕ → List ℕ → ℕ → List Bool → ℕ → ℕ → ℕ → Bool
test plan sizes rows written marks i first p =
    not ((plan_of plan).waits i p) || row_fits_on (plan_of plan) sizes rows written marks (first + waits_to (plan_of plan) i p)

abbrev pub invariant-loop-p : goal.invariant-loop-p
invariant-loop-p l =
    (l.n ≡ at_most 256 ((plan_of l.plan).size l.i))
    × (l.n ≤ 256)
    × (l.p ≤ l.n)
    × (l.row ≤ 2048 + l.p)
    × (l.row ≡ l.first + waits_to (plan_of l.plan) l.i l.p)
    × (all_below l.p (test l.plan l.sizes l.rows l.written l.marks l.i l.first) ≡ true)
