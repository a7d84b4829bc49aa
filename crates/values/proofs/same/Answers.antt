-- `values::same` meets its contract. Assumes nothing.
use Rattle.values.specs.Values.{same}
use Rattle.values.proofs.same.Goals as goal

pub returns : goal.returns
unfolding same
returns c =
    c.eq.ensures
