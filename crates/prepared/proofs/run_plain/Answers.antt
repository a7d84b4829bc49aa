-- `prepared::run_plain` meets its contract: each way through the code is a law of proofs/Ways. Assumes nothing.
use mathlib.Core.Path.{sym, ◌∙◌}
use native.Mathlib.Omega.{arith}
use Rattle.plan.specs.Plan.{plan_of}
use Rattle.prepared.proofs.Ways.{laid, plain-unfit, plain-userless, plain-fit}
use Rattle.prepared.proofs.run_plain.Goals as goal

pub returns-then-not-state_fits : goal.returns-then-not-state_fits
returns-then-not-state_fits c =
    rw c.not_rested.ensures (plain-unfit _ _ _ (sym c.state_fits.ensures ∙ c.if-not-state_fits.true) _)

pub returns-then-user-ge-USERS : goal.returns-then-user-ge-USERS
returns-then-user-ge-USERS c =
    rw c.not_rested-then-user-ge-USERS.ensures
    (plain-userless _ _ _ (sym c.state_fits.ensures ∙ c.if-not-state_fits.false) (omega arith) _)

pub returns : goal.returns
returns c =
    let p = c.args in
    plain-fit (plan_of p.plan.now) p.st _ (sym c.state_fits.ensures ∙ c.if-not-state_fits.false)
    (omega (arith, c.if-user-ge-USERS.false)) _
    (laid (plan_of p.plan.now) p.st _ _ _ _ c.slots_of-pending.ensures c.unpack-marks.ensures)
    _ _ _ _ _ _ _ _ c.room_in-room.ensures c.run_plain-t.ensures (c.verdict_of-verdict.ensures _ _ _)
    c.raised-counters.ensures c.pack-state.ensures
