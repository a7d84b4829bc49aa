-- `prepared::run` meets its contract: each way through the code is a law of proofs/Ways. Assumes nothing.
use mathlib.Core.Path.{sym, ◌∙◌}
use native.Mathlib.Omega.{arith}
use Rattle.plan.specs.Plan.{plan_of}
use Rattle.prepared.proofs.Ways.{laid, run-unfit, run-userless, run-fit}
use Rattle.prepared.proofs.run.Goals as goal

pub returns-then-not-state_fits : goal.returns-then-not-state_fits
returns-then-not-state_fits c =
    rw c.not_run.ensures (run-unfit _ _ _ (sym c.state_fits.ensures ∙ c.if-not-state_fits.true) _)

pub returns-then-user-ge-USERS : goal.returns-then-user-ge-USERS
returns-then-user-ge-USERS c =
    rw c.not_run-then-user-ge-USERS.ensures
    (run-userless _ _ _ (sym c.state_fits.ensures ∙ c.if-not-state_fits.false) (omega arith) _)

pub returns : goal.returns
returns c =
    let p = c.args in
    run-fit (plan_of p.plan.now) p.st _ (sym c.state_fits.ensures ∙ c.if-not-state_fits.false)
    (omega (arith, c.if-user-ge-USERS.false)) _
    (laid (plan_of p.plan.now) p.st _ _ _ _ c.slots_of-pending.ensures c.unpack-marks.ensures)
    _ _ _ _ _ _ _ c.room_in-room.ensures c.run_list-t.ensures c.raised-counters.ensures c.pack-state.ensures
