-- `plan_fill::fill_watchers` meets its contract. Assumes nothing.
use Rattle.plan_fill.specs.Filling.{with_watchers}
use Rattle.plan_fill.proofs.fill_watchers.Goals as goal

pub returns : goal.returns
unfolding with_watchers
returns c =
    rw (c.copy.ensures, c.watch_threads.ensures)
