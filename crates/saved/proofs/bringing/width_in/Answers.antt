-- `saved::bringing::width_in` meets its contract. Assumes nothing.
use borrow.Author.Tests.{lt-ltb, le-ltb}
use Rattle.saved.specs.Older.{width_in}
use Rattle.saved.proofs.bringing.width_in.Goals as goal

pub returns-then-k-n : goal.returns-then-k-n
unfolding width_in
returns-then-k-n c =
    rw (lt-ltb _ _ c.if-k-n.true) c.byte_at.ensures

pub returns : goal.returns
unfolding width_in
returns c =
    rw (le-ltb _ _ c.if-k-n.false)
