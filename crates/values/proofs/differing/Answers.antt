-- `values::differing` meets its contract. Assumes nothing.
use Rattle.values.specs.Operators.{differing}
use Rattle.values.proofs.differing.Goals as goal

pub returns : goal.returns
unfolding differing
returns c =
    rw (c.outside.ensures, c.marked-marks.ensures)
