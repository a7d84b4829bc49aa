-- `values::inverted` meets its contract. Assumes nothing.
use Rattle.values.specs.Operators.{inverted}
use Rattle.values.proofs.inverted.Goals as goal

pub returns : goal.returns
unfolding inverted
returns c =
    rw (c.outside.ensures, c.possible.ensures, c.ones.ensures)
