-- `plan_state::ready` meets its contract. The loop's invariant: the marks so far are those of the threads below `i`. Assumes nothing.
use mathlib.Core.Path.{◌≡◌, sym, ap, ◌∙◌}
use mathlib.Core.Logic.{⊎_elim}
use Prim.Native.Nat.{◌≤◌}
use native.Mathlib.Omega.{arith}
use borrow.Author.Tests.{not-true, not-false}
use Rattle.masks.specs.Masks.{bits}
use Rattle.plan.specs.Plan.{plan_of}
use Rattle.plan_changes.specs.Changes.{eight}
use Rattle.plan_changes.proofs.Changes.{eight-most}
use Rattle.plan_state.specs.Packing.{ready_below}
use Rattle.plan_state.proofs.Packing.{ready-none, ready-off, ready_on}
use borrow.Author.Rules.{rules}
use Rattle.plan_state.proofs.ready.Given as goal

abbrev pub invariant-loop-i : goal.invariant-loop-i
invariant-loop-i l =
    (l.i ≤ l.n) × (bits l.m ≡ ready_below (plan_of l.plan) l.places l.i)
