-- `rivals::found` meets its contract. Assumes nothing.
use Rattle.rivals.specs.Judging.{found}
use Rattle.rivals.proofs.found.Goals as goal

pub returns : goal.returns
unfolding found
returns c =
    rw (← c.row_of-a.ensures, ← c.row_of-b.ensures, ← c.row_of-c.ensures, ← c.row_of-d.ensures)
    c.compare.ensures
