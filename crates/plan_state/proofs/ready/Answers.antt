-- `plan_state::ready` meets its contract. The loop's invariant: the marks so far are those of the threads below `i`. Assumes nothing.
use mathlib.Core.Path.{◌≡◌, sym, ap, ◌∙◌}
use mathlib.Core.Logic.{⊎_elim}
use Prim.Native.Nat.{ℕ, ◌+◌, ◌≤◌, ◌-◌}
use native.Mathlib.Omega.{arith}
use borrow.Author.Tests.{not-true, not-false}
use Rattle.masks.specs.Masks.{bits}
use Rattle.plan.specs.Plan.{plan_of}
use Rattle.plan_changes.specs.Changes.{eight}
use Rattle.plan_changes.proofs.Changes.{min-eight}
use Rattle.plan_state.specs.Packing.{ready_below}
use Rattle.plan_state.proofs.Packing.{ready-none, ready-off, ready_on}
use borrow.Author.Rules.{rules}
use Rattle.plan_state.proofs.ready.Goals.{then-not-waits, else-not-waits}
use Rattle.plan_state.proofs.ready.Goals as goal

pub loop-i-init : goal.loop-i-init
loop-i-init c =
    (omega arith, ready-none _ _)

pub bounds-places-i : goal.bounds-places-i
bounds-places-i c =
    omega (arith, c.min-n.ensures)

pub loop-i-preserved : goal.loop-i-preserved
loop-i-preserved c =
    let a = c.args in
    let l = c.loop-i in
    let w = c.waits in
    let next : bits c.if-not-waits.m ≡ ready_below (plan_of a.plan.now) a.places.now (l.i + 1) =
    elim c.if-not-waits.branch [
      | then-not-waits v ↦
          rw v.m-is (ready_on _ _ l.i l.m l.invariant.1 _ (sym w.ensures ∙ v.if-not-waits.true) v.with-m.ensures)
      | else-not-waits v ↦ rw v.m-is (ready-off _ _ l.i l.m l.invariant.1 (sym w.ensures ∙ v.if-not-waits.false))
    ] in
    (omega arith, next)

pub returns : goal.returns
returns c =
    let a = c.args in
    let l = c.loop-i in
    let h : l.i ≡ c.min-n.result = omega arith in
    l.invariant.1
    ∙ ap (λ (n : ℕ). ready_below (plan_of a.plan.now) a.places.now n)
    (h ∙ c.min-n.ensures ∙ min-eight _ ∙ ap eight c.threads.ensures)
