-- `clock_check::judged_rows::registers_fit` meets its contract. The loop: the entries so far are in order. Assumes nothing.
use mathlib.Core.Path.{◌≡◌}
use mathlib.Core.Bool.{Bool, true}
use mathlib.Core.List.{List}
use Prim.Native.Nat.{ℕ, ◌≤◌}
use Rattle.state.specs.Rows.{all_below}
use Rattle.plan.specs.Plan.{plan_of}
use Rattle.clock_check.specs.Judging.{entry_fits_on}
use Rattle.clock_check.proofs.judged_rows.registers_fit.Given as goal

abbrev pub test : List ℕ → List ℕ → List ℕ → ℕ → ℕ → ℕ → Bool
test plan sizes rows written row = entry_fits_on (plan_of plan) sizes rows written row

abbrev pub invariant-loop-r : goal.invariant-loop-r
invariant-loop-r l =
    (l.n ≡ (plan_of l.plan).registers) × (l.r ≤ l.n) × (all_below l.r (test l.plan l.sizes l.rows l.written l.row) ≡ true)
