-- `clock_check::judged_rows::register_fits` meets its contract, test by test. Assumes nothing.
use native.Mathlib.Omega.{arith}
use borrow.Author.Tests.{lt-ltb, le-ltb}
use Rattle.nodes.specs.Cells.{size_in}
use Rattle.clock_check.specs.Judging.{register_fits_on}
use Rattle.clock_check.proofs.judged_rows.register_fits.Goals as goal

pub returns-then-n-ge4096 : goal.returns-then-n-ge4096
unfolding register_fits_on
returns-then-n-ge4096 c =
    rw (← c.entry_at-n.ensures, le-ltb _ _ c.if-n-ge4096.true)

pub overflow_add-inputs : goal.overflow_add-inputs
overflow_add-inputs c =
    omega (arith, c.inputs.ensures)

pub returns : goal.returns
unfolding register_fits_on size_in
returns c =
    let small = lt-ltb _ _ c.if-n-ge4096.false in
    rw (← c.entry_at-n.ensures, small, ← c.inputs.ensures, ← c.width.ensures, rw small at c.size_at.ensures)
