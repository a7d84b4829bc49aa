-- `plan::width` meets its contract, by its test.
use borrow.Author.Tests.{lt-ltb, le-ltb}
use Rattle.plan.specs.Plan.{width_at}
use Rattle.plan.proofs.width.Goals as goal

pub returns-then-v-ge80 : goal.returns-then-v-ge80
unfolding width_at
returns-then-v-ge80 c =
    rw (le-ltb _ _ c.if-v-ge80.true)

pub returns : goal.returns
unfolding width_at
returns c =
    rw (lt-ltb _ _ c.if-v-ge80.false, c.low.ensures)
