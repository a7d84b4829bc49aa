-- `rivals::meeting::telling_of` meets its contract. Assumes nothing.
use Rattle.rivals.specs.Meeting.{telling}
use Rattle.rivals.proofs.meeting.telling_of.Goals as goal

pub returns-then-is_said : goal.returns-then-is_said
unfolding telling
returns-then-is_said c =
    rw (← c.is_said.ensures, c.if-is_said.true) c.verdict_telling.ensures

pub returns : goal.returns
unfolding telling
returns c =
    rw (← c.is_said.ensures, c.if-is_said.false)
