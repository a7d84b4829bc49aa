-- `values::all_unknown` meets its contract. Assumes nothing.
use Rattle.values.specs.Values.{all_unknown}
use Rattle.values.proofs.all_unknown.Goals as goal

pub returns : goal.returns
unfolding all_unknown
returns c =
    rw c.ones.ensures
