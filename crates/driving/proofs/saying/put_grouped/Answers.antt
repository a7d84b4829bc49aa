-- `driving::saying::put_grouped` meets its contract. Assumes nothing.
use borrow.Author.Tests.{lt-ltb, le-ltb}
use Rattle.writing.proofs.Buffer.{both}
use Rattle.driving.specs.Saying.{grouped}
use Rattle.driving.proofs.saying.put_grouped.Goals as goal

pub returns-then-n-lt1000000 : goal.returns-then-n-lt1000000
unfolding grouped
returns-then-n-lt1000000 c =
    rw (lt-ltb _ _ c.if-n-lt1000000.true) c.put_thousands.ensures

pub returns : goal.returns
unfolding grouped
returns c =
    rw (le-ltb _ _ c.if-n-lt1000000.false)
    (both _ _ _ _ _ (both _ _ _ _ _ c.put_thousands-p.ensures
    c.put_three-q.ensures) c.put_three.ensures)
