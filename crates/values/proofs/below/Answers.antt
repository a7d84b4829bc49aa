-- `values::below` meets its contract. Assumes nothing.
use Rattle.std.proofs.Common.{sym, lt-ltb}
use Rattle.values.proofs.Values.{shifted, below_wider}
use Rattle.values.proofs.below.Goals as goal

pub returns-then-width-ge32 : goal.returns-then-width-ge32
returns-then-width-ge32 c =
    sym (lt-ltb _ _ (below_wider c.ranges.n.fits c.if-width-ge32.true))

pub returns-else-width-ge32 : goal.returns-else-width-ge32
returns-else-width-ge32 c =
    rw (shifted c.args.width c.if-width-ge32.false)
