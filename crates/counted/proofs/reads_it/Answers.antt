-- `counted::reads_it` meets its contract. Assumes nothing.
use mathlib.Core.Path.{◌∙◌}
use Rattle.counted.proofs.Counting.{reads-not, reads-it}
use Rattle.counted.proofs.reads_it.Goals as goal

pub returns-then-has : goal.returns-then-has
returns-then-has c =
    reads-it _ _ _ _ _ _ c.readers.ensures c.has.ensures c.if-has.true c.differs.ensures

pub returns-else-has : goal.returns-else-has
returns-else-has c =
    c.if-has.false ∙ reads-not _ _ _ _ _ _ c.readers.ensures c.has.ensures c.if-has.false
