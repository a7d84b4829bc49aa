-- `workload::driven` meets its contract. Assumes nothing.
use Rattle.workload.proofs.Tracing.{driven-refused, driven-on}
use Rattle.workload.proofs.driven.Goals as goal

pub returns-then-c-ne0 : goal.returns-then-c-ne0
returns-then-c-ne0 c =
    driven-refused _ _ _ _ _ c.instant-c.ensures c.if-c-ne0.true

pub returns : goal.returns
returns c =
    driven-on _ _ _ _ _ c.instant-c.ensures c.if-c-ne0.false _ c.to_rest.ensures
