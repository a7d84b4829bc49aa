-- `masks::has` meets its contract. Assumes nothing.
use mathlib.Core.Path.{sym}
use Rattle.masks.specs.Masks.{odd}
use Rattle.masks.proofs.Masks.{get_d_bits, get_d-bits-past}
use Rattle.masks.proofs.has.Goals as goal

pub returns-then-k-ge32 : goal.returns-then-k-ge32
unfolding odd
returns-then-k-ge32 c =
    sym (get_d-bits-past c.args.m c.args.k c.if-k-ge32.true)

pub returns : goal.returns
unfolding odd
returns c =
    sym (get_d_bits c.args.m c.args.k c.if-k-ge32.false)
