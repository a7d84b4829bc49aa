-- `plan::readers` meets its contract. Assumes nothing.
use borrow.Author.Tests.{lt-ltb, le-ltb}
use Rattle.plan.specs.Plan.{readers_at}
use Rattle.plan.proofs.readers.Goals as goal

pub returns-then-v-ge80 : goal.returns-then-v-ge80
unfolding readers_at
returns-then-v-ge80 c =
    rw (le-ltb _ _ c.if-v-ge80.true)

pub returns : goal.returns
unfolding readers_at
returns c =
    rw (lt-ltb _ _ c.if-v-ge80.false)
