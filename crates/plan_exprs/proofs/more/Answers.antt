-- `plan_exprs::more` meets its contract. Assumes nothing.
use borrow.Author.Tests.{lt-ltb, le-ltb}
use Rattle.plan_exprs.specs.Flatten.{more}
use Rattle.plan_exprs.proofs.more.Goals as goal

pub returns-then-n-lt4176 : goal.returns-then-n-lt4176
unfolding more
returns-then-n-lt4176 c =
    rw (lt-ltb _ _ c.if-n-lt4176.true)

pub returns-else-n-lt4176 : goal.returns-else-n-lt4176
unfolding more
returns-else-n-lt4176 c =
    rw (le-ltb _ _ c.if-n-lt4176.false)
