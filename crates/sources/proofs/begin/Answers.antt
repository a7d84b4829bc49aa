-- `sources::begin` meets its contract. Assumes nothing.
use Rattle.sources.specs.Sources.{nothing}
use Rattle.sources.proofs.begin.Goals as goal

pub returns : goal.returns
unfolding nothing
returns c =
    rw c.begin.ensures
