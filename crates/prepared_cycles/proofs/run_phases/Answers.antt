-- `prepared_cycles::run_phases` meets its contract. The loop: the phases that are left, from what was reached, end where all of them
-- do from the start. Assumes nothing.
use native.Mathlib.Nat.{le_refl, le_antisymm}
use native.Mathlib.Omega.{arith}
use mathlib.Core.Path.{refl, sym, ap, ◌∙◌}
use Rattle.events.specs.declared.Inputs.{Inputs}
use Rattle.plan.specs.Plan.{plan_of}
use Rattle.prepared_cycles.specs.Cycles.{row_inputs}
use Rattle.prepared_cycles.specs.Phases.{moment_of, phase_at, phases_at, ended}
use Rattle.prepared_cycles.proofs.Items.{row_inside}
use Rattle.prepared_cycles.proofs.Going.{laid-out, phases-whole, phases-end, phases-on, phases-off}
use Rattle.prepared_cycles.proofs.run_phases.Goals as goal

pub overflow_mul-n : goal.overflow_mul-n
overflow_mul-n c =
    omega arith

pub loop-p-init : goal.loop-p-init
loop-p-init c =
    (omega arith, omega arith, refl, c.requires, phases-whole _ _ _ _ _)

pub inputs_at-a-requires : goal.inputs_at-a-requires
inputs_at-a-requires c =
    let l = c.loop-p in
    (record { p_in_bounds = row_inside _ _ (omega (arith, c.loop-p-test.true, l.invariant.2)); unknown_len = l.invariant.3 })

pub returns-then-f-ne0 : goal.returns-then-f-ne0
returns-then-f-ne0 c =
    let l = c.loop-p in
    let a = c.args in
    let q = plan_of a.plan.now in
    let inputs = row_inputs q.inputs a.value.now a.unknown.now in
    let o = moment_of l.cells l.pending l.places l.standing in
    let e = c.phase-f.ensures ∙ ap (λ (x : Inputs). phase_at q x o) c.inputs_at-a.ensures in
    let z = laid-out q a.st a.user _ _ _ c.slots_of-pending.ensures c.unpack-marks.ensures in
    c.ended.ensures
    ∙ ap ended
    (sym (phases-off q inputs _ l.p o c.loop-p-test.true _ e c.if-f-ne0.true)
    ∙ l.invariant.4
    ∙ ap (phases_at q inputs _ 0) z)

pub loop-p-preserved : goal.loop-p-preserved
loop-p-preserved c =
    let l = c.loop-p in
    let a = c.args in
    let q = plan_of a.plan.now in
    let inputs = row_inputs q.inputs a.value.now a.unknown.now in
    let o = moment_of l.cells l.pending l.places l.standing in
    let e = c.phase-f.ensures ∙ ap (λ (x : Inputs). phase_at q x o) c.inputs_at-a.ensures in (
      omega (arith, c.loop-p-test.true),
      l.invariant.1,
      l.invariant.2,
      l.invariant.3,
      sym (phases-on q inputs _ l.p o c.loop-p-test.true _ e c.if-f-ne0.false) ∙ l.invariant.4,
    )

pub returns : goal.returns
returns c =
    let l = c.loop-p in
    let a = c.args in
    let q = plan_of a.plan.now in
    let inputs = row_inputs q.inputs a.value.now a.unknown.now in
    let z = laid-out q a.st a.user _ _ _ c.slots_of-pending.ensures c.unpack-marks.ensures in
    let e = le_antisymm l.invariant.0 c.loop-p-test.false in
    c.ended-2.ensures
    ∙ ap ended
    (sym (phases-end q inputs _ _ _ (le_refl _))
    ∙ (rw e at l.invariant.4)
    ∙ ap (phases_at q inputs _ 0) z)
