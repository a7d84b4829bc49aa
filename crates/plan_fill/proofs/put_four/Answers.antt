-- `plan_fill::put_four` meets its contract. Assumes nothing.
use mathlib.Core.Path.{refl}
use Rattle.plan_fill.specs.Filling.{put_four}
use Rattle.plan_fill.proofs.put_four.Goals as goal

pub returns : goal.returns
unfolding put_four
returns c =
    refl
