-- `plan_fill::fill_act` meets its contract. Assumes nothing.
use Rattle.plan_fill.specs.Filling.{fill_act}
use Rattle.plan_fill.proofs.fill_act.Goals as goal

pub returns-in-Set : goal.returns-in-Set
unfolding fill_act
returns-in-Set c =
    rw (c.in-Set.is, c.fill_expr.ensures)

pub returns-in-Later : goal.returns-in-Later
unfolding fill_act
returns-in-Later c =
    rw (c.in-Later.is, c.fill_expr-in-Later.ensures)

pub returns-in-Go : goal.returns-in-Go
unfolding fill_act
returns-in-Go c =
    rw c.in-Go.is c.fill_go.ensures

pub returns-in-IfNot : goal.returns-in-IfNot
unfolding fill_act
returns-in-IfNot c =
    rw (c.in-IfNot.is, c.fill_expr-in-IfNot.ensures)
