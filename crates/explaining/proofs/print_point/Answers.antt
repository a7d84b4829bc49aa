-- `explaining::print_point` meets its contract. Assumes nothing.
use mathlib.Core.Path.{refl}
use Rattle.explaining.proofs.Walking.{point-path}
use Rattle.explaining.proofs.print_point.Goals as goal

pub returns : goal.returns
returns c =
    point-path _ _ _ _ _ _ c.put_heading-p.ensures refl c.walk_forever.ensures
