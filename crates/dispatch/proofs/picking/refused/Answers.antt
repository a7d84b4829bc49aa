-- `dispatch::picking::refused` meets its contract. Assumes nothing.
use mathlib.Core.Path.{refl}
use Rattle.dispatch.specs.Turn.{turn_of}
use Rattle.dispatch.proofs.picking.refused.Goals as goal

pub returns : goal.returns
unfolding turn_of
returns c =
    refl
