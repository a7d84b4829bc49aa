-- `rivals::meeting::first_ending` meets its contract. Assumes nothing.
use Rattle.rivals.specs.Meeting.{first_ending}
use Rattle.rivals.proofs.meeting.first_ending.Goals as goal

pub returns : goal.returns
unfolding first_ending
returns c =
    rw (← c.progress_of.ensures, ← c.first_halted-h.ensures) c.ending_at.ensures
