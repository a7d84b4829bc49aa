-- `prepared_cycles::drive` meets its contract: an array that is too short, a state that doesn't fit, a user above 3, rows that aren't
-- whole, or the instants. Assumes nothing.
use native.Mathlib.Omega.{arith}
use mathlib.Core.Path.{sym, ◌∙◌}
use Rattle.prepared_cycles.proofs.Items.{whole-lengths}
use Rattle.prepared_cycles.proofs.Driving.{drive-short, drive-unfit, drive-userless, drive-ragged, drive-run}
use Rattle.prepared_cycles.proofs.drive.Goals as goal

pub overflow_mul-n : goal.overflow_mul-n
overflow_mul-n c =
    omega arith

pub returns-then-out-n : goal.returns-then-out-n
returns-then-out-n c =
    let r =
    drive-short _ _ _ _ _ _ _ _ c.if-out-n.true _ c.undriven.ensures in
    record { value = r.0; out_after = r.1 }

pub returns-then-not-state_fits : goal.returns-then-not-state_fits
returns-then-not-state_fits c =
    let r =
    drive-unfit _ _ _ _ _ _ _ _ c.if-out-n.false (sym c.state_fits.ensures ∙ c.if-not-state_fits.true) _
    c.undriven-then-not-state_fits.ensures in
    record { value = r.0; out_after = r.1 }

pub returns-then-user-ge-USERS : goal.returns-then-user-ge-USERS
returns-then-user-ge-USERS c =
    let r =
    drive-userless _ _ _ _ _ _ _ _ c.if-out-n.false (sym c.state_fits.ensures ∙ c.if-not-state_fits.false)
    (omega (arith, c.if-user-ge-USERS.true)) _ c.undriven-then-user-ge-USERS.ensures in
    record { value = r.0; out_after = r.1 }

pub returns-then-not-rows_whole : goal.returns-then-not-rows_whole
returns-then-not-rows_whole c =
    let r =
    drive-ragged _ _ _ _ _ _ _ _ c.if-out-n.false (sym c.state_fits.ensures ∙ c.if-not-state_fits.false)
    (omega (arith, c.if-user-ge-USERS.false)) (sym c.rows_whole.ensures ∙ c.if-not-rows_whole.true) _
    c.undriven-then-not-rows_whole.ensures in
    record { value = r.0; out_after = r.1 }

pub drive_phases-requires : goal.drive_phases-requires
drive_phases-requires c =
    record { unknown_len = whole-lengths _ _ (sym c.rows_whole.ensures ∙ c.if-not-rows_whole.false); value_in_bounds = c.if-out-n.false }

pub shape_of-out : goal.shape_of-out
shape_of-out c =
    c.drive_phases.auto.out

pub returns : goal.returns
returns c =
    let r =
    drive-run _ _ _ _ _ _ _ _ c.if-out-n.false (sym c.state_fits.ensures ∙ c.if-not-state_fits.false)
    (omega (arith, c.if-user-ge-USERS.false)) (sym c.rows_whole.ensures ∙ c.if-not-rows_whole.false) _ _
    c.drive_phases.ensures.value c.drive_phases.ensures.out_after in
    record { value = r.0; out_after = r.1 }
