-- `prepared::unset_marks` meets its contract. The loop's invariant: the marks of the variables so far are stored. Assumes nothing.
use mathlib.Core.Path.{◌≡◌, refl, ◌∙◌}
use native.Mathlib.Omega.{arith}
use lib.ListN.{get_or}
use Rattle.values.specs.Values.{ones}
use Rattle.state.specs.Rows.{list_of}
use Rattle.state.proofs.Rows.{list_of-step, list_of-whole}
use Rattle.plan.specs.Plan.{plan_of}
use Rattle.prepared.specs.Prepared.{widths_of}
use Rattle.prepared.proofs.Ways.{unset-marks}
use Rattle.prepared.proofs.unset_marks.Goals as goal

pub loop-v-init : goal.loop-v-init
unfolding list_of
loop-v-init c =
    (omega arith, refl)

pub loop-v-preserved : goal.loop-v-preserved
loop-v-preserved c =
    let l = c.loop-v in
    let ws = c.args.plan.now in (
      omega arith,
      rw (unset-marks _ _ _ c.all_unknown.ensures c.marks_of.ensures, c.width_at.ensures, l.invariant.1)
          (list_of-step (λ k. ones (get_or (widths_of (plan_of ws)) k 32)) _ l.v),
    )

pub returns : goal.returns
returns c =
    let l = c.loop-v in
    let ws = c.args.plan.now in
    let e : l.v ≡ 80 = omega arith in
    rw e at l.invariant.1 ∙ list_of-whole (λ k. ones (get_or (widths_of (plan_of ws)) k 32)) _ 80 refl
