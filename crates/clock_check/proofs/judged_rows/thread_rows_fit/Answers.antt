-- `clock_check::judged_rows::thread_rows_fit` meets its contract. Assumes nothing.
use Rattle.clock_check.proofs.judged_rows.thread_rows_fit.Goals as goal

pub returns : goal.returns
returns c =
    rw c.land.ensures at c.thread_fits.ensures
