-- `prepared_cycles::run_cycles` meets its contract: a state that doesn't fit, a user above 3, rows that aren't
-- whole, or the cycles. Assumes nothing.
use native.Mathlib.Omega.{arith}
use mathlib.Core.Path.{sym, ◌∙◌}
use Rattle.prepared_cycles.proofs.Items.{whole-lengths}
use Rattle.prepared_cycles.proofs.Going.{cycles-unfit, cycles-userless, cycles-ragged, cycles-run}
use Rattle.prepared_cycles.proofs.run_cycles.Goals as goal

pub returns-then-not-state_fits : goal.returns-then-not-state_fits
returns-then-not-state_fits c =
    c.refused_with.ensures ∙ cycles-unfit _ _ _ _ _ (sym c.state_fits.ensures ∙ c.if-not-state_fits.true)

pub returns-then-user-ge-USERS : goal.returns-then-user-ge-USERS
returns-then-user-ge-USERS c =
    c.refused_with-then-user-ge-USERS.ensures
    ∙ cycles-userless _ _ _ _ _ (sym c.state_fits.ensures ∙ c.if-not-state_fits.false)
    (omega (arith, c.if-user-ge-USERS.true))

pub returns-then-not-rows_whole : goal.returns-then-not-rows_whole
returns-then-not-rows_whole c =
    c.refused_with-then-not-rows_whole.ensures
    ∙ cycles-ragged _ _ _ _ _ (sym c.state_fits.ensures ∙ c.if-not-state_fits.false)
    (omega (arith, c.if-user-ge-USERS.false))
    (sym c.rows_whole.ensures ∙ c.if-not-rows_whole.true)

pub run_phases-requires : goal.run_phases-requires
run_phases-requires c =
    whole-lengths _ _ (sym c.rows_whole.ensures ∙ c.if-not-rows_whole.false)

pub returns : goal.returns
returns c =
    cycles-run _ _ _ _ _ (sym c.state_fits.ensures ∙ c.if-not-state_fits.false) (omega (arith, c.if-user-ge-USERS.false))
    (sym c.rows_whole.ensures ∙ c.if-not-rows_whole.false) _ c.run_phases.ensures
