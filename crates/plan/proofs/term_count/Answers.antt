-- `plan::term_count` meets its contract. Assumes nothing.
use borrow.Author.Tests.{lt-ltb, le-ltb}
use Rattle.plan.specs.Plan.{terms_from, terms_at}
use Rattle.plan.proofs.term_count.Goals as goal

pub returns-then-thread-ge8 : goal.returns-then-thread-ge8
unfolding terms_at terms_from
returns-then-thread-ge8 c =
    rw (le-ltb _ _ c.if-thread-ge8.true)

pub returns : goal.returns
unfolding terms_at terms_from
returns c =
    rw (c.low.ensures, lt-ltb _ _ c.if-thread-ge8.false)
