-- `sheet::body::finished` meets its contract, case by case. Assumes nothing.
use Rattle.sheet.proofs.Stages.{finished-threads, finished-over, finished-head, finished-made}
use Rattle.sheet.proofs.body.finished.Goals as goal

pub returns-in-Refused : goal.returns-in-Refused
returns-in-Refused c =
    finished-threads _ _ _ _ _ c.in-Refused.is c.refused.ensures

pub returns-then-end-size : goal.returns-then-end-size
returns-then-end-size c =
    finished-over _ _ _ _ _ c.in-At.is c.if-end-size.true c.refused-then-end-size.ensures

pub returns-in-Refused-head : goal.returns-in-Refused-head
returns-in-Refused-head c =
    finished-head _ _ _ _ _ c.in-At.is c.if-end-size.false c.in-Refused-head.is c.refused-in-Refused-head.ensures

pub returns-in-Read : goal.returns-in-Read
returns-in-Read c =
    finished-made _ _ _ _ _ c.in-At.is c.if-end-size.false c.in-Read.is c.widths_at.ensures
