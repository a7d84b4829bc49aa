-- `rivals::meeting::meet` meets its contract. Assumes nothing.
use Rattle.rivals.specs.Meeting.{met}
use Rattle.rivals.proofs.meeting.meet.Goals as goal

pub returns : goal.returns
unfolding met
returns c =
    rw (
      ← c.progress_of.ensures,
      ← c.comparable-n.ensures,
      ← c.judge-verdict.ensures,
      ← c.first_ending-ending.ensures,
      ← c.goes_on-on.ensures,
    )
