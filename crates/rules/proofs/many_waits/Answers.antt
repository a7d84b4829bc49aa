-- `rules::many_waits` meets its contract. Assumes nothing.
use mathlib.Core.Path.{ap}
use lib.Dec.{ltb}
use Rattle.rules.specs.Judging.{many_waits_at}
use Rattle.rules.proofs.many_waits.Goals as goal

pub returns : goal.returns
unfolding many_waits_at
returns c =
    ap (ltb 32) c.waits_of.ensures
