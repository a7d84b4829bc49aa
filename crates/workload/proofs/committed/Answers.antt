-- `workload::committed` meets its contract. Assumes nothing.
use Rattle.workload.proofs.Tracing.{committed-quiet, committed-on}
use Rattle.workload.proofs.committed.Goals as goal

pub returns-then-c-eq-NONE_PENDING : goal.returns-then-c-eq-NONE_PENDING
returns-then-c-eq-NONE_PENDING c =
    committed-quiet _ _ _ _ c.choose-c.ensures c.if-c-eq-NONE_PENDING.true

pub returns : goal.returns
returns c =
    committed-on _ _ _ _ c.choose-c.ensures c.if-c-eq-NONE_PENDING.false
