-- `plan_fitting::slot_fits` meets its contract. Assumes nothing.
use Rattle.events.specs.Calls.{pending_fits}
use borrow.Author.Rules.{rules}
use Rattle.plan_fitting.proofs.slot_fits.Goals as goal

pub returns-then-not-held : goal.returns-then-not-held
unfolding pending_fits
returns-then-not-held c =
    rw c.if-not-held.true

pub returns-else-not-held : goal.returns-else-not-held
unfolding pending_fits
returns-else-not-held c =
    rw c.if-not-held.false c.fits.ensures
