-- `counted::differs` meets its contract. Assumes nothing.
use Rattle.counted.proofs.Counting.{differs-law}
use Rattle.counted.proofs.differs.Goals as goal

pub returns : goal.returns
returns c =
    differs-law _ _ _ c.value_at-x.ensures c.value_at-y.ensures
    c.same.ensures
