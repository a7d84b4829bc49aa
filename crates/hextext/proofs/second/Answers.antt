-- `hextext::second` meets its contract. Assumes nothing.
use Rattle.hextext.specs.Scanning.{second}
use Rattle.hextext.proofs.second.Goals as goal

pub returns : goal.returns
unfolding second
returns c =
    rw (← c.more.ensures, ← c.more-2.ensures, ← c.more-3.ensures)
