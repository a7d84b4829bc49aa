-- `sheet::body::row_end` meets its contract, case by case. Assumes nothing.
use Rattle.sheet.proofs.Stages.{row-end, row-end-refused}
use Rattle.sheet.proofs.body.row_end.Goals as goal

pub returns-in-At : goal.returns-in-At
returns-in-At c =
    row-end c.in-At.is

pub returns-in-Refused : goal.returns-in-Refused
returns-in-Refused c =
    row-end-refused c.in-Refused.is
