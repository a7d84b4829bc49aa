-- `workload::stretched` meets its contract. Assumes nothing.
use mathlib.Core.Path.{refl}
use Rattle.workload.proofs.Tracing.{stretched-is}
use Rattle.workload.proofs.stretched.Goals as goal

pub returns : goal.returns
returns c =
    stretched-is _ _ _ _ _ c.work-w.ensures _ c.readers-n.ensures _ refl _ _
    c.summed.ensures c.summed-2.ensures
