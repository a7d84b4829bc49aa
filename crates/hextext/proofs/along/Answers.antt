-- `hextext::along` meets its contract. Assumes nothing.
use Rattle.hextext.specs.Scanning.{along}
use Rattle.hextext.proofs.along.Goals as goal

pub returns : goal.returns
unfolding along
returns c =
    rw c.more.ensures
