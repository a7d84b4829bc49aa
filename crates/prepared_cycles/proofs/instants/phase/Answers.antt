-- `prepared_cycles::instants::phase` meets its contract: an instant that is refused, or one that is made and run from. Assumes nothing.
use mathlib.Core.Path.{sym, ◌∙◌}
use Rattle.events.specs.Calls.{input_of}
use Rattle.plan.specs.Plan.{plan_of}
use Rattle.prepared_cycles.specs.Phases.{moment_of}
use Rattle.prepared_cycles.proofs.Going.{time-room, phase-off, phase-on}
use Rattle.prepared_cycles.proofs.instants.phase.Goals as goal

pub returns-then-number-ne0 : goal.returns-then-number-ne0
returns-then-number-ne0 c =
    let p = c.args in
    let k = p.standing.counters in
    phase-off _ _ _ _
    (c.refusal-number.ensures p.cells.now p.pending.now p.places.now k.counts k.allowances p.standing.user)
    c.if-number-ne0.true

pub later-requires : goal.later-requires
later-requires c =
    let p = c.args in
    let k = p.standing.counters in
    let e = c.refusal-number.ensures p.cells.now p.pending.now p.places.now k.counts k.allowances
    p.standing.user in
    time-room _ _ _ (sym e ∙ c.if-number-ne0.false)

pub returns : goal.returns
unfolding input_of
returns c =
    let p = c.args in
    let k = p.standing.counters in
    let e = c.refusal-number.ensures p.cells.now p.pending.now p.places.now k.counts k.allowances
    p.standing.user in
    phase-on (plan_of p.plan.now) p.a (moment_of p.cells.now p.pending.now p.places.now p.standing) _ e
    c.if-number-ne0.false _ c.feed-fed.ensures _ c.room_in-room.ensures _ c.run_plain-run.ensures _ _
    c.later.ensures c.raised-counters.ensures
