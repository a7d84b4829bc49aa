-- `plan_changes::after` meets its contract. Assumes nothing.
use borrow.Author.Tests.{lt-ltb, le-ltb}
use Rattle.plan_changes.specs.Changes.{after}
use Rattle.plan_changes.proofs.after.Goals as goal

pub returns-then-p-lt255 : goal.returns-then-p-lt255
unfolding after
returns-then-p-lt255 c =
    rw (lt-ltb _ _ c.if-p-lt255.true)

pub returns-else-p-lt255 : goal.returns-else-p-lt255
unfolding after
returns-else-p-lt255 c =
    rw (le-ltb _ _ c.if-p-lt255.false)
