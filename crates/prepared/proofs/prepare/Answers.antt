-- `prepared::prepare` meets its contract: each way through the code is a law of proofs/Ways. Assumes nothing.
use Rattle.prepared.proofs.Ways.{prepared-answer, prepared-refused, prepared-filled}
use Rattle.prepared.proofs.prepare.Goals as goal

pub returns-then-answer-ne0 : goal.returns-then-answer-ne0
returns-then-answer-ne0 c =
    let p = c.args in
    (record { value = prepared-answer p.sheet.now p.plan.now _ c.read-read.ensures; plan_after = prepared-refused p.sheet.now p.plan.now _ c.read-read.ensures c.if-answer-ne0.true })

pub returns : goal.returns
returns c =
    let p = c.args in
    (record { value = prepared-answer p.sheet.now p.plan.now _ c.read-read.ensures; plan_after = prepared-filled p.sheet.now p.plan.now _ c.read-read.ensures c.if-answer-ne0.false _ c.fill.ensures })
