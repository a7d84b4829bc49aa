-- `cycles::cycled_of` meets its contract. Assumes nothing.
use Rattle.cycles.specs.Claims.{cycled_of}
use Rattle.cycles.proofs.cycled_of.Goals as goal

pub returns : goal.returns
unfolding cycled_of
returns c =
    c.ended.ensures
