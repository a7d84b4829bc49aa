-- `rules::waits` meets its contract. Assumes nothing.
use mathlib.Core.Path.{refl}
use Rattle.rules.specs.Walking.{running, waits}
use Rattle.rules.proofs.waits.Goals as goal

pub returns : goal.returns
unfolding running waits
returns c =
    rw c.running.ensures refl
