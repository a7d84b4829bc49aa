-- `options::judging::status_of` meets its contract, case by case. Assumes nothing.
use Rattle.options.specs.Status.{status_of}
use Rattle.options.proofs.judging.status_of.Goals as goal

pub returns-in-Done : goal.returns-in-Done
unfolding status_of
returns-in-Done c =
    rw c.in-Done.is

pub returns-in-Refused : goal.returns-in-Refused
unfolding status_of
returns-in-Refused c =
    rw c.in-Refused.is

pub returns-in-Different : goal.returns-in-Different
unfolding status_of
returns-in-Different c =
    rw c.in-Different.is

pub returns-in-Mistaken : goal.returns-in-Mistaken
unfolding status_of
returns-in-Mistaken c =
    rw c.in-Mistaken.is
