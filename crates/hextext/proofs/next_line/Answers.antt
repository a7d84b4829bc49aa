-- `hextext::next_line` meets its contract. Assumes nothing.
use Rattle.hextext.specs.Scanning.{next_line}
use Rattle.hextext.proofs.next_line.Goals as goal

pub returns : goal.returns
unfolding next_line
returns c =
    rw c.more.ensures
