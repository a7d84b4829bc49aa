-- `driving::trace` meets its contract: no rows, or the cycles driven. Assumes nothing.
use Rattle.plan.specs.Plan.{plan_of}
use Rattle.driving.proofs.Plans.{traced-none, traced-run}
use Rattle.driving.proofs.trace.Goals as goal

pub returns-then-value-lt16 : goal.returns-then-value-lt16
returns-then-value-lt16 c =
    let a = c.args in
    let x = traced-none (plan_of a.plan.now) a.r a.user a.value.now a.unknown.now a.out.now c.if-value-lt16.true in
    record { value = x.0; out_after = x.1 }

pub shape_of-out : goal.shape_of-out
shape_of-out c =
    c.drive-d.auto.out

pub returns : goal.returns
returns c =
    let a = c.args in
    let x = traced-run (plan_of a.plan.now) a.r a.user a.value.now a.unknown.now a.out.now c.if-value-lt16.false _
    c.is_drawn.ensures _ _ c.drive-d.ensures.value c.drive-d.ensures.out_after _ c.rest_of-rest.ensures in
    record { value = x.0; out_after = x.1 }
