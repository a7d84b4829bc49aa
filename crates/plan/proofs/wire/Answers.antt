-- `plan::wire` meets its contract, by its test.
use borrow.Author.Tests.{lt-ltb, le-ltb}
use Rattle.plan.specs.Plan.{wire_at}
use Rattle.plan.proofs.wire.Goals as goal

pub returns-then-k-ge32 : goal.returns-then-k-ge32
unfolding wire_at
returns-then-k-ge32 c =
    rw (le-ltb _ _ c.if-k-ge32.true)

pub returns : goal.returns
unfolding wire_at
returns c =
    rw (lt-ltb _ _ c.if-k-ge32.false, c.slot-root.ensures.value, c.slot-first.ensures.value)
