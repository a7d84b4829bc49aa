-- `explaining::walk_wait` meets its contract. Assumes nothing.
use mathlib.Core.Path.{refl}
use Rattle.explaining.proofs.Walking.{wait-walk}
use Rattle.explaining.proofs.walk_wait.Goals as goal

pub returns : goal.returns
returns c =
    wait-walk _ _ _ _ _ c.after-n.ensures
    c.byte_at-count.ensures c.wide.ensures
    c.say_wait-pos.ensures refl
    c.either.ensures c.only.ensures
