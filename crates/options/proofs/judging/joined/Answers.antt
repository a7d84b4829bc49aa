-- `options::judging::joined` meets its contract, case by case. Assumes nothing.
use Rattle.options.specs.Status.{joined}
use Rattle.options.proofs.judging.joined.Goals as goal

pub returns-in-Done : goal.returns-in-Done
unfolding joined
returns-in-Done c =
    rw c.in-Done.is

pub returns-in-Refused : goal.returns-in-Refused
unfolding joined
returns-in-Refused c =
    rw c.in-Refused.is

pub returns-in-Different : goal.returns-in-Different
unfolding joined
returns-in-Different c =
    rw c.in-Different.is

pub returns-in-Mistaken : goal.returns-in-Mistaken
unfolding joined
returns-in-Mistaken c =
    rw c.in-Mistaken.is
