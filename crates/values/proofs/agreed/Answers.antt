-- `values::agreed` meets its contract. Assumes nothing.
use Rattle.values.specs.Operators.{agreed}
use Rattle.values.proofs.agreed.Goals as goal

pub returns : goal.returns
unfolding agreed
returns c =
    rw c.marked.ensures
