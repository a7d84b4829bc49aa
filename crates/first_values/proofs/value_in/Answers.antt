-- `first_values::value_in` meets its contract. Assumes nothing.
use Rattle.first_values.specs.FirstValues.{value_in}
use Rattle.first_values.proofs.value_in.Goals as goal

pub returns : goal.returns
unfolding value_in
returns c =
    c.parse.ensures
