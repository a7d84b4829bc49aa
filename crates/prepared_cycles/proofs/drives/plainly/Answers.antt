-- `prepared_cycles::drives::plainly` meets its contract. Assumes nothing.
use Rattle.plan.specs.Plan.{plan_of}
use Rattle.prepared_cycles.specs.Drives.{going_of}
use Rattle.prepared_cycles.proofs.Driving.{plainly-is}
use Rattle.prepared_cycles.proofs.drives.plainly.Goals as goal

pub returns : goal.returns
returns c =
    let a = c.args in
    plainly-is (plan_of a.plan.now) (going_of a.cells.now a.pending.now a.places.now a.g) _
    c.room_in-room.ensures _ _ _
    c.run_plain-run.ensures _ (c.busy-rested.ensures _ _ _) _ c.raised-counters.ensures
