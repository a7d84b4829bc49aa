-- `values::reduce` meets its contract. Assumes nothing.
use Rattle.std.proofs.Common.{sym, mod-eq_of_lt, pow_pos}
use Rattle.values.proofs.Values.{shifted, below_wider}
use Rattle.values.proofs.reduce.Goals as goal

pub nonzero_rem-result : goal.nonzero_rem-result
nonzero_rem-result c =
    let w = c.args.width in rw (shifted w c.if-width-ge32.false) (pow_pos w)

pub returns-then-width-ge32 : goal.returns-then-width-ge32
returns-then-width-ge32 c =
    sym (mod-eq_of_lt (below_wider c.ranges.n.fits c.if-width-ge32.true))

pub returns-else-width-ge32 : goal.returns-else-width-ge32
returns-else-width-ge32 c =
    rw (shifted c.args.width c.if-width-ge32.false)
