-- `rules::running` meets its contract. Assumes nothing.
use mathlib.Core.Path.{refl}
use Rattle.rules.specs.Walking.{running}
use Rattle.rules.proofs.running.Goals as goal

pub returns : goal.returns
unfolding running
returns c =
    refl
