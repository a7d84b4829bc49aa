-- `prepared_cycles::settle` meets its contract. Assumes nothing.
use native.Mathlib.Omega.{arith}
use mathlib.Core.Path.{sym, ◌∙◌}
use Rattle.prepared_cycles.proofs.Driving.{settled-unfit, settled-userless, settled-run}
use Rattle.prepared_cycles.proofs.settle.Goals as goal

pub returns-then-not-state_fits : goal.returns-then-not-state_fits
returns-then-not-state_fits c =
    settled-unfit _ _ _ _ _ (sym c.state_fits.ensures ∙ c.if-not-state_fits.true) _ c.undriven.ensures

pub returns-then-user-ge-USERS : goal.returns-then-user-ge-USERS
returns-then-user-ge-USERS c =
    settled-userless _ _ _ _ _ (sym c.state_fits.ensures ∙ c.if-not-state_fits.false)
    (omega (arith, c.if-user-ge-USERS.true)) _
    c.undriven-then-user-ge-USERS.ensures

pub returns : goal.returns
returns c =
    settled-run _ _ _ _ _ (sym c.state_fits.ensures ∙ c.if-not-state_fits.false)
    (omega (arith, c.if-user-ge-USERS.false)) _
    c.run_to_rest.ensures
