-- `values::both` meets its contract. Assumes nothing.
use Rattle.values.specs.Operators.{both}
use Rattle.values.proofs.both.Goals as goal

pub returns : goal.returns
unfolding both
returns c =
    rw (c.between.ensures, c.possible-2.ensures, c.possible.ensures)
