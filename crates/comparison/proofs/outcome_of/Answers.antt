-- `comparison::outcome_of` meets its contract. Assumes nothing.
use Rattle.comparison.specs.Verdicts.{outcome_of}
use Rattle.comparison.proofs.outcome_of.Goals as goal

pub returns-in-Agreed : goal.returns-in-Agreed
unfolding outcome_of
returns-in-Agreed c =
    rw c.in-Agreed.is c.agreed_outcome.ensures

pub returns-in-Differs : goal.returns-in-Differs
unfolding outcome_of
returns-in-Differs c =
    rw c.in-Differs.is
