-- `rivals::is_said` meets its contract. Assumes nothing.
use Rattle.rivals.specs.Judging.{is_said}
use Rattle.rivals.proofs.is_said.Goals as goal

pub returns-then-is_agreed : goal.returns-then-is_agreed
unfolding is_said
returns-then-is_agreed c =
    rw (← c.is_agreed.ensures, c.if-is_agreed.true) c.is_done.ensures

pub returns : goal.returns
unfolding is_said
returns c =
    rw (← c.is_agreed.ensures, c.if-is_agreed.false)
