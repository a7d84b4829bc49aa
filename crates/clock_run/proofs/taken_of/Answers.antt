-- `clock_run::taken_of` meets its contract. Assumes nothing.
use Rattle.clock_run.proofs.Turns.{taken_none, taken-some}
use Rattle.clock_run.proofs.taken_of.Goals as goal

pub returns-then-r-eq0 : goal.returns-then-r-eq0
returns-then-r-eq0 c =
    taken_none _ _ _ _ c.if-r-eq0.true c.refused.ensures

pub returns : goal.returns
returns c =
    taken-some _ _ _ _ c.if-r-eq0.false c.answer.ensures
