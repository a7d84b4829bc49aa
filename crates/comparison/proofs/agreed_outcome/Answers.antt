-- `comparison::agreed_outcome` meets its contract. Assumes nothing.
use borrow.Author.Tests.{eq-eqb, ne_eqb}
use Rattle.comparison.specs.Verdicts.{agreed_outcome}
use Rattle.comparison.proofs.agreed_outcome.Goals as goal

pub returns-then-n-eq0 : goal.returns-then-n-eq0
unfolding agreed_outcome
returns-then-n-eq0 c =
    rw (eq-eqb _ _ c.if-n-eq0.true)

pub returns-else-n-eq0 : goal.returns-else-n-eq0
unfolding agreed_outcome
returns-else-n-eq0 c =
    rw (ne_eqb _ _ c.if-n-eq0.false)
