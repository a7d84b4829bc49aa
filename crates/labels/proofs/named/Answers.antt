-- `labels::named` meets its contract. Assumes nothing.
use Rattle.labels.proofs.Labels.{named-taken, named-right}
use Rattle.labels.proofs.named.Goals as goal

pub returns-then-is_taken : goal.returns-then-is_taken
returns-then-is_taken c =
    named-taken _ _ _ _ _ _ c.is_taken.ensures _ c.if-is_taken.true c.marked.ensures

pub returns : goal.returns
returns c =
    named-right _ _ _ _ _ _ c.is_taken.ensures _ _ c.if-is_taken.false
    c.set_name.ensures c.marked-2.ensures
