-- `plan_fitting::slots_fit` meets its contract. The loop's invariant: the slots below `r` fit. Assumes nothing.
use borrow.Author.Tests.{not-true, not-false}
use mathlib.Core.Bool.{Bool, true}
use mathlib.Core.List.{List}
use mathlib.Core.Path.{◌≡◌}
use Prim.Native.Nat.{ℕ, ◌+◌, ◌≤◌, ◌<◌, ◌-◌}
use native.Mathlib.Omega.{arith}
use Rattle.state.specs.declared.State.{State}
use Rattle.state.specs.State.{pending_of}
use Rattle.events.specs.Cycle.{all_below}
use Rattle.events.specs.Calls.{pending_fits}
use Rattle.plan.specs.Plan.{plan_of}
use Rattle.plan_fitting.specs.Fitting.{slots_fit}
use Rattle.plan_fitting.proofs.Loops.{all_none, All-more, all_done, all-fails, slot-found}
use Rattle.plan_fitting.proofs.Judged.{inputs-byte, registers-byte}
use borrow.Author.Rules.{rules}
use Rattle.plan_fitting.proofs.slots_fit.Invariants.{test}
use Rattle.plan_fitting.proofs.slots_fit.Goals as goal

pub loop-r-init : goal.loop-r-init
loop-r-init c =
    let p = c.args in
    (c.inputs-from.ensures, c.registers-n.ensures, search rules, all_none (test p.plan.now p.st))

pub overflow_add-from : goal.overflow_add-from
overflow_add-from c =
    let p = c.args in
    omega (arith, c.loop-r.invariant.0, c.loop-r.invariant.1, inputs-byte p.plan.now, registers-byte p.plan.now)

pub returns-then-not-slot_fits : goal.returns-then-not-slot_fits
unfolding slots_fit
returns-then-not-slot_fits c =
    let p = c.args in
    let e = c.width-width.ensures in
    let t = c.if-not-slot_fits.true in
    all-fails (test p.plan.now p.st) c.loop-r.r (plan_of p.plan.now).registers (omega arith)
    (slot-found p.st c.loop-r.r (rw c.loop-r.invariant.0 at e) c.flag_at-held.ensures c.value_at-a.ensures
    c.slot_fits.ensures t)

pub loop-r-preserved : goal.loop-r-preserved
loop-r-preserved c =
    let p = c.args in
    let e = c.width-width.ensures in
    let t = c.if-not-slot_fits.false in (
      c.loop-r.invariant.0,
      c.loop-r.invariant.1,
      search rules,
      All-more (test p.plan.now p.st) c.loop-r.r c.loop-r.invariant.3
          (slot-found p.st c.loop-r.r (rw c.loop-r.invariant.0 at e) c.flag_at-held.ensures c.value_at-a.ensures
          c.slot_fits.ensures t),
    )

pub returns : goal.returns
unfolding slots_fit
returns c =
    let p = c.args in
    all_done (test p.plan.now p.st) c.loop-r.r (plan_of p.plan.now).registers (omega arith) (omega arith)
    c.loop-r.invariant.3
