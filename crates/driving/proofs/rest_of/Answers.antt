-- `driving::rest_of` meets its contract. Assumes nothing.
use Rattle.driving.specs.Plans.{rest_of}
use Rattle.driving.proofs.rest_of.Goals as goal

pub returns : goal.returns
unfolding rest_of
returns c =
    rw c.stopped_by-number.ensures
