-- `drawing::value_size` meets its contract. Assumes nothing.
use Rattle.drawing.specs.Drawing.{value_size}
use Rattle.drawing.proofs.value_size.Goals as goal

pub returns : goal.returns
unfolding value_size
returns c =
    rw (c.places.ensures, c.byte_at.ensures)
