-- `rules::later_register` meets its contract. Assumes nothing.
use Rattle.rules.specs.Writers.{later_register}
use Rattle.rules.proofs.later_register.Goals as goal

pub returns-in_default : goal.returns-in_default
unfolding later_register
returns-in_default c =
    rw c.in_default.is

pub returns-in-Later : goal.returns-in-Later
unfolding later_register
returns-in-Later c =
    rw (c.in-Act.is, c.in-Later.is) c.register_of.ensures

pub returns-in-Set : goal.returns-in-Set
unfolding later_register
returns-in-Set c =
    rw (c.in-Act.is, c.in-Set.is)

pub returns-in-Go : goal.returns-in-Go
unfolding later_register
returns-in-Go c =
    rw (c.in-Act.is, c.in-Go.is)

pub returns-in-IfNot : goal.returns-in-IfNot
unfolding later_register
returns-in-IfNot c =
    rw (c.in-Act.is, c.in-IfNot.is)
