-- `drawing::put_lane` meets its contract. Assumes nothing.
use Rattle.drawing.specs.Drawing.{lane}
use Rattle.writing.proofs.Buffer.{both}
use Rattle.writing.specs.Ascii.{ascii}
use Rattle.drawing.proofs.put_lane.Goals as goal

pub returns : goal.returns
unfolding ascii lane
returns c =
    rw (← c.byte_at.ensures)
    (both _ _ _ _ _ c.put_lane_name-p.ensures
    (both _ _ _ _ _ c.put_lane_frame-q.ensures
    (both _ _ _ _ _ c.put_stretches-s.ensures
    c.put_word.ensures)))
