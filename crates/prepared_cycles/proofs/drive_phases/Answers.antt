-- `prepared_cycles::drive_phases` meets its contract. The loop: the instants that are left, from what was reached and written, end and
-- leave what all of them do from the start. Assumes nothing.
use native.Mathlib.Nat.{le_refl, le_antisymm}
use native.Mathlib.Omega.{arith}
use borrow.Author.Tests.{not-true, not-false}
use mathlib.Core.Path.{refl, sym, ap, ◌∙◌}
use mathlib.Core.Bool.{true}
use Rattle.events.specs.declared.Inputs.{Inputs}
use Rattle.plan.specs.Plan.{plan_of}
use Rattle.prepared_cycles.specs.Cycles.{row_inputs}
use Rattle.prepared_cycles.specs.Phases.{Moment, state_at}
use Rattle.prepared_cycles.specs.Traces.{rounds}
use Rattle.prepared_cycles.specs.Drives.{going, going_of, on_plan, drive, drives, rows, arrived}
use Rattle.prepared_cycles.proofs.Items.{row_inside, row_written}
use Rattle.prepared_cycles.proofs.Going.{laid-out}
use Rattle.prepared_cycles.proofs.Tracing.{kept-written, row_room}
use Rattle.prepared_cycles.proofs.Driving.{drives-whole, drives-end, drives-on, drives-off}
use Rattle.prepared_cycles.proofs.Driving.{rows_whole, rows_end, rows_on, rows-off}
use Rattle.prepared_cycles.proofs.drive_phases.Goals as goal

pub overflow_mul-n : goal.overflow_mul-n
overflow_mul-n c =
    omega arith

pub loop-p-init : goal.loop-p-init
loop-p-init c =
    let p = c.requires in (
      omega arith,
      record {
        few = omega arith;
        count = refl;
        marked = p.unknown_len;
        room = p.value_in_bounds;
        long = refl;
      },
      drives-whole _ _ _ _ _ _,
      rows_whole _ _ _ _ _ _ _,
    )

pub inputs_at-a-requires : goal.inputs_at-a-requires
inputs_at-a-requires c =
    let k = c.loop-p.invariant.1 in
    record { p_in_bounds = row_inside _ _ (omega (arith, c.loop-p-test.true, k.count)); unknown_len = k.marked }

pub shape_of-out-then-not-went : goal.shape_of-out-then-not-went
shape_of-out-then-not-went c =
    c.loop-p.invariant.1.long

pub returns-then-not-went : goal.returns-then-not-went
returns-then-not-went c =
    let l = c.loop-p in
    let a = c.args in
    let q = plan_of a.plan.now in
    let inputs = row_inputs q.inputs a.value.now a.unknown.now in
    let g = going_of l.cells l.pending l.stood l.went in
    let h = c.loop-p-test.true in
    let e = c.drive-went.ensures ∙ ap (λ (x : Inputs). drive (on_plan q) a.drawn x g) c.inputs_at-a.ensures in
    let x = not-true _ c.if-not-went.true in
    let z = laid-out q a.st a.user _ _ _ c.slots_of-pending.ensures c.unpack-marks.ensures in record {
      value = c.arrived.ensures
          ∙ ap (arrived state_at)
          (sym (drives-off q a.drawn inputs _ l.p g h _ e x)
          ∙ l.invariant.2
          ∙ ap (λ (o : Moment). drives (on_plan q) a.drawn inputs (rounds a.value.now) 0 (going 0 true a.seed o)) z);
      out_after = sym (rows-off q a.drawn inputs _ l.p g h _ e x l.out)
          ∙ l.invariant.3
          ∙ ap (λ (o : Moment). rows (on_plan q) a.drawn inputs (rounds a.value.now) 0 (going 0 true a.seed o) a.out.now) z;
    }

pub put_row-requires : goal.put_row-requires
put_row-requires c =
    row_room c.loop-p.invariant.1 _ c.loop-p-test.true

pub loop-p-preserved : goal.loop-p-preserved
loop-p-preserved c =
    let l = c.loop-p in
    let a = c.args in
    let q = plan_of a.plan.now in
    let inputs = row_inputs q.inputs a.value.now a.unknown.now in
    let g = going_of l.cells l.pending l.stood l.went in
    let h = c.loop-p-test.true in
    let e = c.drive-went.ensures ∙ ap (λ (x : Inputs). drive (on_plan q) a.drawn x g) c.inputs_at-a.ensures in
    let y = not-false _ c.if-not-went.false in
    let x = row_written l.p l.out _ _ _ c.put_row.ensures in (
      omega (arith, h),
      kept-written l.invariant.1 _ _ _ x,
      sym (drives-on q a.drawn inputs _ l.p g h _ e y) ∙ l.invariant.2,
      sym (rows_on q a.drawn inputs _ l.p g h _ e y l.out _ x) ∙ l.invariant.3,
    )

pub shape_of-out : goal.shape_of-out
shape_of-out c =
    c.loop-p.invariant.1.long

pub returns : goal.returns
returns c =
    let l = c.loop-p in
    let a = c.args in
    let q = plan_of a.plan.now in
    let inputs = row_inputs q.inputs a.value.now a.unknown.now in
    let g = going_of l.cells l.pending l.stood l.went in
    let e = le_antisymm l.invariant.0 c.loop-p-test.false in
    let z = laid-out q a.st a.user _ _ _ c.slots_of-pending.ensures c.unpack-marks.ensures in record {
      value = c.arrived-2.ensures
          ∙ ap (arrived state_at)
          (sym (drives-end q a.drawn inputs _ _ g (le_refl _))
          ∙ (rw e at l.invariant.2)
          ∙ ap (λ (o : Moment). drives (on_plan q) a.drawn inputs (rounds a.value.now) 0 (going 0 true a.seed o)) z);
      out_after = sym (rows_end q a.drawn inputs _ _ g l.out (le_refl _))
          ∙ (rw e at l.invariant.3)
          ∙ ap (λ (o : Moment). rows (on_plan q) a.drawn inputs (rounds a.value.now) 0 (going 0 true a.seed o) a.out.now) z;
    }
