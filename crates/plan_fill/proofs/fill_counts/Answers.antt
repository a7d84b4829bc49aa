-- `plan_fill::fill_counts` meets its contract. Assumes nothing.
use Rattle.plan_fill.specs.Filling.{with_counts}
use Rattle.plan_fill.proofs.fill_counts.Goals as goal

pub returns : goal.returns
unfolding with_counts
returns c =
    rw c.put_four.ensures
