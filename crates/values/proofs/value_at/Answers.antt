-- `values::value_at` meets its contract. Assumes nothing.
use Rattle.values.specs.Planes.{value_at}
use Rattle.values.proofs.value_at.Goals as goal

pub returns : goal.returns
unfolding value_at
returns c =
    rw (c.plane_at-2.ensures, c.plane_at.ensures)
