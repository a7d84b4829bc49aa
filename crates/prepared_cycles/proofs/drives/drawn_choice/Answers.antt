-- `prepared_cycles::drives::drawn_choice` meets its contract. Assumes nothing.
use borrow.Author.Tests.{lt-ltb, le-ltb}
use Rattle.prepared_cycles.specs.Drives.{drawn_choice}
use Rattle.prepared_cycles.proofs.drives.drawn_choice.Goals as goal

pub returns-then-k-n : goal.returns-then-k-n
unfolding drawn_choice
returns-then-k-n c =
    rw (lt-ltb _ _ c.if-k-n.true)

pub returns : goal.returns
unfolding drawn_choice
returns c =
    rw (le-ltb _ _ c.if-k-n.false)
