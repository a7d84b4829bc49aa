-- `masks::any` meets its contract. Assumes nothing.
use mathlib.Core.Path.{sym}
use Rattle.masks.proofs.Masks.{any-bits}
use Rattle.masks.proofs.any.Goals as goal

pub returns : goal.returns
returns c =
    sym (any-bits c.args.m c.ranges.m.fits)
