-- `rules::set_register` meets its contract. Assumes nothing.
use Rattle.rules.specs.Writers.{set_register}
use Rattle.rules.proofs.set_register.Goals as goal

pub returns-in_default : goal.returns-in_default
unfolding set_register
returns-in_default c =
    rw c.in_default.is

pub returns-in-Set : goal.returns-in-Set
unfolding set_register
returns-in-Set c =
    rw (c.in-Act.is, c.in-Set.is) c.register_of.ensures

pub returns-in-Later : goal.returns-in-Later
unfolding set_register
returns-in-Later c =
    rw (c.in-Act.is, c.in-Later.is)

pub returns-in-Go : goal.returns-in-Go
unfolding set_register
returns-in-Go c =
    rw (c.in-Act.is, c.in-Go.is)

pub returns-in-IfNot : goal.returns-in-IfNot
unfolding set_register
returns-in-IfNot c =
    rw (c.in-Act.is, c.in-IfNot.is)
