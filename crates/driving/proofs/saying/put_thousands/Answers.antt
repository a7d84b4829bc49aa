-- `driving::saying::put_thousands` meets its contract. Assumes nothing.
use borrow.Author.Tests.{lt-ltb, le-ltb}
use Rattle.writing.proofs.Buffer.{both}
use Rattle.driving.specs.Saying.{thousands}
use Rattle.driving.proofs.saying.put_thousands.Goals as goal

pub returns-then-n-lt1000 : goal.returns-then-n-lt1000
unfolding thousands
returns-then-n-lt1000 c =
    rw (lt-ltb _ _ c.if-n-lt1000.true) c.put_decimal.ensures

pub returns : goal.returns
unfolding thousands
returns c =
    rw (le-ltb _ _ c.if-n-lt1000.false) (both _ _ _ _ _ c.put_decimal-p.ensures
    c.put_three.ensures)
