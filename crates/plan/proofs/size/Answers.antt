-- `plan::size` meets its contract, by its test.
use borrow.Author.Tests.{lt-ltb, le-ltb}
use Rattle.plan.specs.Plan.{size_at}
use Rattle.plan.proofs.size.Goals as goal

pub returns-then-i-ge8 : goal.returns-then-i-ge8
unfolding size_at
returns-then-i-ge8 c =
    rw (le-ltb _ _ c.if-i-ge8.true)

pub returns : goal.returns
unfolding size_at
returns c =
    rw (lt-ltb _ _ c.if-i-ge8.false)
