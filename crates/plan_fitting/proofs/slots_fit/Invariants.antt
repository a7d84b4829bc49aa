-- `plan_fitting::slots_fit` meets its contract. The loop's invariant: the slots below `r` fit. Assumes nothing.
use borrow.Author.Tests.{not-true, not-false}
use mathlib.Core.Bool.{Bool, true}
use mathlib.Core.List.{List}
use mathlib.Core.Path.{◌≡◌}
use Prim.Native.Nat.{ℕ, ◌+◌, ◌≤◌}
use native.Mathlib.Omega.{arith}
use Rattle.state.specs.declared.State.{State}
use Rattle.state.specs.State.{pending_of}
use Rattle.events.specs.Cycle.{all_below}
use Rattle.events.specs.Calls.{pending_fits}
use Rattle.plan.specs.Plan.{plan_of}
use Rattle.plan_fitting.specs.Fitting.{slots_fit}
use Rattle.plan_fitting.proofs.Loops.{all_none, All-more, all_done, all-fails, slot-found}
use Rattle.plan_fitting.proofs.Judged.{inputs-byte, registers-byte}
use borrow.Author.Rules.{rules}
use Rattle.plan_fitting.proofs.slots_fit.Given as goal

abbrev pub test : List ℕ → State → ℕ → Bool
test plan st r = pending_fits ((plan_of plan).width ((plan_of plan).inputs + r)) (pending_of st r)

abbrev pub invariant-loop-r : goal.invariant-loop-r
invariant-loop-r l =
    (l.from ≡ (plan_of l.plan).inputs) × (l.n ≡ (plan_of l.plan).registers) × (l.r ≤ l.n) × (all_below l.r (test l.plan l.st) ≡ true)
