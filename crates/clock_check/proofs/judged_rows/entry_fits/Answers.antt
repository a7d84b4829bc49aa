-- `clock_check::judged_rows::entry_fits` meets its contract. Assumes nothing.
use Rattle.clock_check.specs.Judging.{entry_fits_on}
use Rattle.clock_check.proofs.Tests.{only-on, only-off}
use Rattle.clock_check.proofs.judged_rows.entry_fits.Goals as goal

pub returns-then-not-has : goal.returns-then-not-has
unfolding entry_fits_on
returns-then-not-has c =
    rw c.if-not-has.true (only-off _ _ _ c.has.ensures c.if-not-has.true)

pub returns-else-not-has : goal.returns-else-not-has
unfolding entry_fits_on
returns-else-not-has c =
    only-on _ _ _ c.has.ensures _ c.if-not-has.false c.register_fits.ensures
