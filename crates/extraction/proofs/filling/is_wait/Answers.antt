-- `filling::is_wait` meets its contract. Assumes nothing.
use Rattle.extraction.specs.Filling.{waits}
use borrow.Author.Rules.{rules}
use Rattle.extraction.proofs.filling.is_wait.Goals as goal

pub returns-in_default : goal.returns-in_default
unfolding waits
returns-in_default c =
    rw c.in_default.is

pub returns : goal.returns
unfolding waits
returns c =
    rw c.in-Wait.is
