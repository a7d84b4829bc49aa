-- `stimulus::counted` meets its contract. Assumes nothing.
use borrow.Author.Tests.{lt-ltb, le-ltb}
use Rattle.stimulus.specs.Counting.{counted}
use Rattle.stimulus.proofs.counted.Goals as goal

pub returns-then-n-lt4294967295 : goal.returns-then-n-lt4294967295
unfolding counted
returns-then-n-lt4294967295 c =
    rw (lt-ltb _ _ c.if-n-lt4294967295.true)

pub returns-else-n-lt4294967295 : goal.returns-else-n-lt4294967295
unfolding counted
returns-else-n-lt4294967295 c =
    rw (le-ltb _ _ c.if-n-lt4294967295.false)
