-- `masks::union` meets its contract. Assumes nothing.
use Rattle.masks.proofs.Masks.{bits-or}
use Rattle.masks.proofs.union.Goals as goal

pub returns : goal.returns
returns c =
    bits-or c.args.a c.args.b
