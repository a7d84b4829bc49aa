-- `rivals::conclude` meets its contract. Assumes nothing.
use Rattle.rivals.specs.Judging.{concluded}
use Rattle.rivals.proofs.conclude.Goals as goal

pub returns-then-is_said : goal.returns-then-is_said
unfolding concluded
returns-then-is_said c =
    rw (← c.is_said.ensures, c.if-is_said.true) c.outcome_of.ensures

pub returns : goal.returns
unfolding concluded
returns c =
    rw (← c.is_said.ensures, c.if-is_said.false)
