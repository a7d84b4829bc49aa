-- `drawing::put_head` meets its contract. Assumes nothing.
use Rattle.drawing.specs.Drawing.{head}
use Rattle.writing.proofs.Buffer.{both}
use Rattle.drawing.proofs.put_head.Goals as goal

pub returns : goal.returns
unfolding head
returns c =
    both _ _ _ _ _ c.put_frame-p.ensures
    (both _ _ _ _ _ c.put_caption-q.ensures
    (both _ _ _ _ _ c.put_light-s.ensures
    (both _ _ _ _ _ c.put_dark-e.ensures
    (both _ _ _ _ _ c.put_ground-f.ensures
    c.put_rises.ensures))))
