-- `workload::cycled` meets its contract. Assumes nothing.
use borrow.Author.Tests.{not-true, not-false}
use Rattle.workload.proofs.Tracing.{cycled-low, cycled-whole}
use Rattle.workload.proofs.cycled.Goals as goal

pub returns-then-not-low : goal.returns-then-not-low
returns-then-not-low c =
    cycled-low _ _ _ _ _ _ _ c.inputs_at-down.ensures _ c.driven-low.ensures (not-true _ c.if-not-low.true)

pub returns : goal.returns
returns c =
    cycled-whole _ _ _ _ _ _ _ c.inputs_at-down.ensures _ c.driven-low.ensures (not-false _ c.if-not-low.false) _
    c.inputs_at-up.ensures _ c.driven.ensures
