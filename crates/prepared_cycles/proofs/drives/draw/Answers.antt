-- `prepared_cycles::drives::draw` meets its contract. Assumes nothing.
use Rattle.plan.specs.Plan.{plan_of}
use Rattle.prepared_cycles.specs.Drives.{going_of}
use Rattle.prepared_cycles.proofs.Driving.{draw-is}
use Rattle.prepared_cycles.proofs.drives.draw.Goals as goal

pub returns : goal.returns
returns c =
    let a = c.args in
    draw-is (plan_of a.plan.now) (going_of a.cells.now a.pending.now a.places.now a.g) _ _ _ _
    c.next_seed-seed.ensures c.items.ensures c.drawn_choice-c.ensures
    c.room_in-room.ensures _ _ c.take_choice-t.ensures _
    c.accepted.ensures _ c.raised-counters.ensures
