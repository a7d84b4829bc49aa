-- `prepared_cycles::trace_phases` meets its contract. The loop: the phases that are left, from what was reached and written, end and
-- leave what all of them do from the start. Assumes nothing.
use native.Mathlib.Nat.{le_refl, le_antisymm}
use native.Mathlib.Omega.{arith}
use mathlib.Core.Path.{refl, sym, ap, ◌∙◌}
use Rattle.events.specs.declared.Inputs.{Inputs}
use Rattle.plan.specs.Plan.{plan_of}
use Rattle.prepared_cycles.specs.Cycles.{row_inputs}
use Rattle.prepared_cycles.specs.Phases.{Moment, moment_of, phase_at, phases_at, ended}
use Rattle.prepared_cycles.specs.Traces.{rounds, trace_from_at}
use Rattle.prepared_cycles.proofs.Items.{row_inside, row_written}
use Rattle.prepared_cycles.proofs.Going.{laid-out, phases-whole, phases-end, phases-on, phases-off}
use Rattle.prepared_cycles.proofs.Tracing.{kept-written, row_room}
use Rattle.prepared_cycles.proofs.Tracing.{trace-whole, trace-end, trace-on, trace-off}
use Rattle.prepared_cycles.proofs.trace_phases.Goals as goal

pub overflow_mul-n : goal.overflow_mul-n
overflow_mul-n c =
    omega arith

pub loop-p-init : goal.loop-p-init
loop-p-init c =
    let p = c.requires in (
      omega arith,
      record {
        few = omega arith;
        count = refl;
        marked = p.unknown_len;
        room = p.value_in_bounds;
        long = refl;
      },
      phases-whole _ _ _ _ _,
      trace-whole _ _ _ _ _ _,
    )

pub inputs_at-a-requires : goal.inputs_at-a-requires
inputs_at-a-requires c =
    let k = c.loop-p.invariant.1 in
    record { p_in_bounds = row_inside _ _ (omega (arith, c.loop-p-test.true, k.count)); unknown_len = k.marked }

pub shape_of-out-then-f-ne0 : goal.shape_of-out-then-f-ne0
shape_of-out-then-f-ne0 c =
    c.loop-p.invariant.1.long

pub returns-then-f-ne0 : goal.returns-then-f-ne0
returns-then-f-ne0 c =
    let l = c.loop-p in
    let a = c.args in
    let q = plan_of a.plan.now in
    let inputs = row_inputs q.inputs a.value.now a.unknown.now in
    let o = moment_of l.cells l.pending l.stood l.standing in
    let h = c.loop-p-test.true in
    let e = c.phase-f.ensures ∙ ap (λ (x : Inputs). phase_at q x o) c.inputs_at-a.ensures in
    let z = laid-out q a.st a.user _ _ _ c.slots_of-pending.ensures c.unpack-marks.ensures in record {
      value = c.ended.ensures
          ∙ ap ended (sym (phases-off q inputs _ l.p o h _ e c.if-f-ne0.true) ∙ l.invariant.2 ∙ ap (phases_at q inputs _ 0) z);
      out_after = sym (trace-off q inputs _ l.p o l.out h _ e c.if-f-ne0.true)
          ∙ l.invariant.3
          ∙ ap (λ (x : Moment). trace_from_at q inputs (rounds a.value.now) 0 x a.out.now) z;
    }

pub put_row-requires : goal.put_row-requires
put_row-requires c =
    row_room c.loop-p.invariant.1 _ c.loop-p-test.true

pub loop-p-preserved : goal.loop-p-preserved
loop-p-preserved c =
    let l = c.loop-p in
    let a = c.args in
    let q = plan_of a.plan.now in
    let inputs = row_inputs q.inputs a.value.now a.unknown.now in
    let o = moment_of l.cells l.pending l.stood l.standing in
    let h = c.loop-p-test.true in
    let e = c.phase-f.ensures ∙ ap (λ (x : Inputs). phase_at q x o) c.inputs_at-a.ensures in
    let x = row_written l.p l.out _ _ _ c.put_row.ensures in (
      omega (arith, h),
      kept-written l.invariant.1 _ _ _ x,
      sym (phases-on q inputs _ l.p o h _ e c.if-f-ne0.false) ∙ l.invariant.2,
      sym (trace-on q inputs _ l.p o l.out h _ e c.if-f-ne0.false _ x) ∙ l.invariant.3,
    )

pub shape_of-out : goal.shape_of-out
shape_of-out c =
    c.loop-p.invariant.1.long

pub returns : goal.returns
returns c =
    let l = c.loop-p in
    let a = c.args in
    let q = plan_of a.plan.now in
    let inputs = row_inputs q.inputs a.value.now a.unknown.now in
    let e = le_antisymm l.invariant.0 c.loop-p-test.false in
    let z = laid-out q a.st a.user _ _ _ c.slots_of-pending.ensures c.unpack-marks.ensures in record {
      value = c.ended-2.ensures
          ∙ ap ended (sym (phases-end q inputs _ _ _ (le_refl _)) ∙ (rw e at l.invariant.2) ∙ ap (phases_at q inputs _ 0) z);
      out_after = sym (trace-end q inputs _ _ _ _ (le_refl _))
          ∙ (rw e at l.invariant.3)
          ∙ ap (λ (x : Moment). trace_from_at q inputs (rounds a.value.now) 0 x a.out.now) z;
    }
