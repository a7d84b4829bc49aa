-- `hextext::ending` meets its contract. Assumes nothing.
use Rattle.hextext.specs.Decoding.{ending}
use Rattle.hextext.proofs.ending.Goals as goal

pub returns : goal.returns
unfolding ending
returns c =
    rw c.error_of.ensures
