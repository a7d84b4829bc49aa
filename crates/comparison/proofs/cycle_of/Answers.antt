-- `comparison::cycle_of` meets its contract, case by case. Assumes nothing.
use Rattle.comparison.specs.Verdicts.{cycle_of}
use Rattle.comparison.proofs.cycle_of.Goals as goal

pub returns-in-Agreed : goal.returns-in-Agreed
unfolding cycle_of
returns-in-Agreed c =
    rw c.in-Agreed.is

pub returns-in-Differs : goal.returns-in-Differs
unfolding cycle_of
returns-in-Differs c =
    rw c.in-Differs.is
