-- `rivals::comparable` meets its contract. Assumes nothing.
use Rattle.rivals.specs.Judging.{comparable}
use Rattle.rivals.proofs.comparable.Goals as goal

pub returns : goal.returns
unfolding comparable
returns c =
    rw (← c.lesser.ensures, ← c.lesser-2.ensures) c.lesser-3.ensures
