-- `clock_check::judged_rows::wait_fits` meets its contract. Assumes nothing.
use Rattle.clock_check.proofs.judged_rows.wait_fits.Goals as goal

pub returns-then-not-waits : goal.returns-then-not-waits
returns-then-not-waits c =
    rw c.if-not-waits.true

pub returns-else-not-waits : goal.returns-else-not-waits
returns-else-not-waits c =
    rw c.if-not-waits.false c.row_fits.ensures
