-- `plan_fill::fill_readers` meets its contract. Assumes nothing.
use Rattle.plan_fill.specs.Filling.{with_readers}
use Rattle.plan_fill.proofs.fill_readers.Goals as goal

pub returns : goal.returns
unfolding with_readers
returns c =
    rw (c.copy.ensures, c.fill_readers.ensures)
