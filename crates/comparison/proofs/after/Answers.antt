-- `comparison::after` meets its contract, case by case. Assumes nothing.
use Rattle.comparison.specs.Verdicts.{after}
use Rattle.comparison.proofs.after.Goals as goal

pub returns-in-Same : goal.returns-in-Same
unfolding after
returns-in-Same c =
    rw (c.in-Agreed.is, c.in-Same.is, c.counted.ensures)

pub returns-in-Apart : goal.returns-in-Apart
unfolding after
returns-in-Apart c =
    rw (c.in-Agreed.is, c.in-Apart.is)

pub returns-in-Differs : goal.returns-in-Differs
unfolding after
returns-in-Differs c =
    rw c.in-Differs.is
