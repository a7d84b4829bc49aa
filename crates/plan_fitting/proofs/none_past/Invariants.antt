-- `plan_fitting::none_past` meets its contract. The loop's invariant: none is up from place `n` on and before `k`. Assumes nothing.
use mathlib.Core.Bool.{Bool, true, false, not}
use mathlib.Core.List.{List}
use mathlib.Core.Path.{◌≡◌}
use Prim.Native.Nat.{ℕ, ◌+◌, ◌≤◌, ◌-◌}
use native.Mathlib.Omega.{arith}
use lib.ListN.{get_or}
use Rattle.events.specs.Cycle.{all_below}
use Rattle.plan_fitting.specs.Fitting.{none_past}
use Rattle.plan_fitting.proofs.Loops.{all_none, All-more, all_done, all-fails}
use borrow.Author.Rules.{rules}
use Rattle.plan_fitting.proofs.none_past.Given as goal

abbrev pub test : List Bool → ℕ → ℕ → Bool
test flags n k = not (get_or flags (n + k) false)

abbrev pub invariant-loop-k : goal.invariant-loop-k
invariant-loop-k l =
    (l.n ≤ l.k) × (l.k - l.n ≤ 32 - l.n) × (all_below (l.k - l.n) (test l.flags l.n) ≡ true)
