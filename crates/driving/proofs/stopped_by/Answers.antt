-- `driving::stopped_by` meets its contract. Assumes nothing.
use Rattle.driving.proofs.Plans.{stopped-refused, stopped-rested, stopped-used-up, stopped-spent}
use Rattle.driving.proofs.stopped_by.Goals as goal

pub returns-then-d-ne0 : goal.returns-then-d-ne0
returns-then-d-ne0 c =
    stopped-refused _ _ c.if-d-ne0.true

pub returns-then-d : goal.returns-then-d
returns-then-d c =
    stopped-rested _ _ c.if-d-ne0.false c.if-d.true

pub returns-then-room_in-eq0 : goal.returns-then-room_in-eq0
returns-then-room_in-eq0 c =
    stopped-used-up _ _ c.if-d-ne0.false c.if-d.false c.room_in.ensures c.if-room_in-eq0.true

pub returns : goal.returns
returns c =
    stopped-spent _ _ c.if-d-ne0.false c.if-d.false c.room_in.ensures c.if-room_in-eq0.false
