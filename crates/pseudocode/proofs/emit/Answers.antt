-- One instruction stored, and the next place.
use Rattle.pseudocode.specs.Filling.{emit}
use Rattle.pseudocode.proofs.emit.Goals as goal

pub returns : goal.returns
unfolding emit
returns c =
    rw (c.store.ensures, c.after.ensures)
