-- `prepared_cycles::drives::drive` meets its contract: an instant that is refused, or one that is run from. Assumes nothing.
use mathlib.Core.Path.{sym, ◌∙◌}
use Rattle.events.specs.Calls.{input_of}
use Rattle.plan.specs.Plan.{plan_of}
use Rattle.prepared_cycles.specs.Drives.{going_of}
use Rattle.prepared_cycles.proofs.Going.{time-room}
use Rattle.prepared_cycles.proofs.Driving.{drive-off, drive-on}
use Rattle.prepared_cycles.proofs.drives.drive.Goals as goal

pub returns-then-number-ne0 : goal.returns-then-number-ne0
returns-then-number-ne0 c =
    let a = c.args in
    let k = a.g.standing.counters in
    drive-off (plan_of a.plan.now) (going_of a.cells.now a.pending.now a.places.now a.g) a.drawn a.a _
    (c.refusal-number.ensures a.cells.now a.pending.now a.places.now k.counts k.allowances a.g.standing.user)
    c.if-number-ne0.true

pub later-counters-requires : goal.later-counters-requires
later-counters-requires c =
    let a = c.args in
    let k = a.g.standing.counters in
    let e = c.refusal-number.ensures a.cells.now a.pending.now a.places.now k.counts k.allowances
    a.g.standing.user in
    time-room _ _ _ (sym e ∙ c.if-number-ne0.false)

pub returns : goal.returns
unfolding input_of
returns c =
    let a = c.args in
    let k = a.g.standing.counters in
    c.to_rest.ensures
    ∙ drive-on (plan_of a.plan.now) (going_of a.cells.now a.pending.now a.places.now a.g) a.drawn a.a _
    (c.refusal-number.ensures a.cells.now a.pending.now a.places.now k.counts k.allowances a.g.standing.user)
    c.if-number-ne0.false _ c.feed-fed.ensures _ c.later-counters.ensures
