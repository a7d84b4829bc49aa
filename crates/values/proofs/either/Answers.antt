-- `values::either` meets its contract. Assumes nothing.
use Rattle.values.specs.Operators.{either}
use Rattle.values.proofs.either.Goals as goal

pub returns : goal.returns
unfolding either
returns c =
    rw (c.between.ensures, c.possible-2.ensures, c.possible.ensures)
