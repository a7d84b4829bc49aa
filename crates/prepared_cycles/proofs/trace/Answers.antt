-- `prepared_cycles::trace` meets its contract: an array that is too short, a state that doesn't fit, a user above 3, rows that aren't
-- whole, or the trace. Assumes nothing.
use native.Mathlib.Omega.{arith}
use mathlib.Core.Path.{sym, ◌∙◌}
use Rattle.prepared_cycles.proofs.Items.{whole-lengths}
use Rattle.prepared_cycles.proofs.Tracing.{trace-short, trace-unfit, trace-userless, trace-ragged, trace-run}
use Rattle.prepared_cycles.proofs.trace.Goals as goal

pub overflow_mul-n : goal.overflow_mul-n
overflow_mul-n c =
    omega arith

pub returns-then-out-n : goal.returns-then-out-n
returns-then-out-n c =
    let r =
    trace-short _ _ _ _ _ _ c.if-out-n.true _ c.refused_with.ensures in
    record { value = r.0; out_after = r.1 }

pub returns-then-not-state_fits : goal.returns-then-not-state_fits
returns-then-not-state_fits c =
    let r =
    trace-unfit _ _ _ _ _ _ c.if-out-n.false (sym c.state_fits.ensures ∙ c.if-not-state_fits.true) _
    c.refused_with-then-not-state_fits.ensures in
    record { value = r.0; out_after = r.1 }

pub returns-then-user-ge-USERS : goal.returns-then-user-ge-USERS
returns-then-user-ge-USERS c =
    let r =
    trace-userless _ _ _ _ _ _ c.if-out-n.false (sym c.state_fits.ensures ∙ c.if-not-state_fits.false)
    (omega (arith, c.if-user-ge-USERS.true)) _ c.refused_with-then-user-ge-USERS.ensures in
    record { value = r.0; out_after = r.1 }

pub returns-then-not-rows_whole : goal.returns-then-not-rows_whole
returns-then-not-rows_whole c =
    let r =
    trace-ragged _ _ _ _ _ _ c.if-out-n.false (sym c.state_fits.ensures ∙ c.if-not-state_fits.false)
    (omega (arith, c.if-user-ge-USERS.false)) (sym c.rows_whole.ensures ∙ c.if-not-rows_whole.true) _
    c.refused_with-then-not-rows_whole.ensures in
    record { value = r.0; out_after = r.1 }

pub trace_phases-requires : goal.trace_phases-requires
trace_phases-requires c =
    record { unknown_len = whole-lengths _ _ (sym c.rows_whole.ensures ∙ c.if-not-rows_whole.false); value_in_bounds = c.if-out-n.false }

pub shape_of-out : goal.shape_of-out
shape_of-out c =
    c.trace_phases.auto.out

pub returns : goal.returns
returns c =
    let r =
    trace-run _ _ _ _ _ _ c.if-out-n.false (sym c.state_fits.ensures ∙ c.if-not-state_fits.false)
    (omega (arith, c.if-user-ge-USERS.false)) (sym c.rows_whole.ensures ∙ c.if-not-rows_whole.false) _ _
    c.trace_phases.ensures.value c.trace_phases.ensures.out_after in
    record { value = r.0; out_after = r.1 }
