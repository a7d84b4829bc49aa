-- `driving::line_outcome` meets its contract. Assumes nothing.
use borrow.Author.Tests.{lt-ltb, le-ltb}
use Rattle.driving.specs.Endings.{line_outcome}
use Rattle.driving.proofs.line_outcome.Goals as goal

pub returns-then-error-lt2 : goal.returns-then-error-lt2
unfolding line_outcome
returns-then-error-lt2 c =
    rw (lt-ltb _ _ c.if-error-lt2.true)

pub returns-else-error-lt2 : goal.returns-else-error-lt2
unfolding line_outcome
returns-else-error-lt2 c =
    rw (le-ltb _ _ c.if-error-lt2.false)
