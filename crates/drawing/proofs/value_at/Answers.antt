-- `drawing::value_at` meets its contract. Assumes nothing.
use Rattle.drawing.specs.Drawing.{value_in}
use Rattle.drawing.proofs.value_at.Goals as goal

pub returns : goal.returns
unfolding value_in
returns c =
    rw (← c.row_of.ensures) c.value_in.ensures
