-- `prepared_cycles::ended` meets its contract. Assumes nothing.
use mathlib.Core.Path.{refl}
use Rattle.prepared_cycles.proofs.Going.{ended-course}
use Rattle.prepared_cycles.proofs.ended.Goals as goal

pub returns : goal.returns
returns c =
    ended-course _ _ _ _ _ _ refl c.pack-state.ensures
