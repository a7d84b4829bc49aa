-- `prepared::instant` meets its contract: each way through the code is a law of proofs/Ways. Assumes nothing.
use mathlib.Core.Path.{sym, ◌∙◌}
use Rattle.events.specs.Calls.{input_of}
use Rattle.plan.specs.Plan.{plan_of}
use Rattle.prepared.proofs.Ways.{laid, instant-unfit, instant-wide, instant-busy, instant-late, instant-done}
use Rattle.prepared.proofs.instant.Goals as goal

pub returns-then-not-state_fits : goal.returns-then-not-state_fits
returns-then-not-state_fits c =
    rw c.refused.ensures (instant-unfit _ _ _ (sym c.state_fits.ensures ∙ c.if-not-state_fits.true))

pub returns-then-not-inputs_fit : goal.returns-then-not-inputs_fit
returns-then-not-inputs_fit c =
    rw c.refused-then-not-inputs_fit.ensures
    (instant-wide _ _ (sym c.state_fits.ensures ∙ c.if-not-state_fits.false) _
    (sym c.inputs_fit.ensures ∙ c.if-not-inputs_fit.true))

pub returns-then-busy : goal.returns-then-busy
returns-then-busy c =
    rw c.refused-then-busy.ensures
    (instant-busy _ _ (sym c.state_fits.ensures ∙ c.if-not-state_fits.false) _
    (sym c.inputs_fit.ensures ∙ c.if-not-inputs_fit.false) _ c.unpack-marks.ensures
    (sym (c.busy.ensures _ _ _) ∙ c.if-busy.true))

pub returns-then-st : goal.returns-then-st
returns-then-st c =
    rw c.refused-then-st.ensures
    (instant-late _ _ (sym c.state_fits.ensures ∙ c.if-not-state_fits.false) _
    (sym c.inputs_fit.ensures ∙ c.if-not-inputs_fit.false) _ c.unpack-marks.ensures
    (sym (c.busy.ensures _ _ _) ∙ c.if-busy.false) c.if-st.true)

pub returns : goal.returns
unfolding input_of
returns c =
    let p = c.args in
    instant-done (plan_of p.plan.now) p.st (sym c.state_fits.ensures ∙ c.if-not-state_fits.false) _
    (sym c.inputs_fit.ensures ∙ c.if-not-inputs_fit.false) _
    (laid (plan_of p.plan.now) p.st _ _ _ _ c.slots_of-pending.ensures c.unpack-marks.ensures)
    (sym (c.busy.ensures _ _ _) ∙ c.if-busy.false) c.if-st.false _ _ _ c.later-counters.ensures
    c.feed-left.ensures c.pack-state.ensures
