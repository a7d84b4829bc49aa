-- `plan::waits` meets its contract. Assumes nothing.
use borrow.Author.Tests.{lt-ltb, le-ltb}
use Rattle.plan.specs.Plan.{waits_at}
use Rattle.plan.proofs.waits.Goals as goal

pub returns-then-thread-lt8 : goal.returns-then-thread-lt8
unfolding waits_at
returns-then-thread-lt8 c =
    rw (lt-ltb _ _ c.if-thread-lt8.true)

pub returns-else-thread-lt8 : goal.returns-else-thread-lt8
unfolding waits_at
returns-else-thread-lt8 c =
    rw (le-ltb _ _ c.if-thread-lt8.false)
