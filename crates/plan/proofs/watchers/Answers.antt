-- `plan::watchers` meets its contract. Assumes nothing.
use borrow.Author.Tests.{lt-ltb, le-ltb}
use Rattle.plan.specs.Plan.{watchers_at}
use Rattle.plan.proofs.watchers.Goals as goal

pub returns-then-v-ge80 : goal.returns-then-v-ge80
unfolding watchers_at
returns-then-v-ge80 c =
    rw (le-ltb _ _ c.if-v-ge80.true)

pub returns : goal.returns
unfolding watchers_at
returns c =
    rw (lt-ltb _ _ c.if-v-ge80.false)
