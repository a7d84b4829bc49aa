-- `prepared_cycles::drives::next_seed` meets its contract. Assumes nothing.
use mathlib.Core.Path.{refl}
use Rattle.prepared_cycles.specs.Drives.{next_seed}
use Rattle.prepared_cycles.proofs.drives.next_seed.Goals as goal

pub returns : goal.returns
unfolding next_seed
returns c =
    refl
