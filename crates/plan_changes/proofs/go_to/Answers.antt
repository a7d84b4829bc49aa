-- `plan_changes::go_to` meets its contract. Assumes nothing.
use mathlib.Core.Path.{sym, ◌∙◌}
use borrow.Author.Tests.{lt-ltb, le-ltb}
use Rattle.plan_changes.specs.Changes.{placed}
use Rattle.plan_changes.proofs.go_to.Goals as goal

pub returns-then-i-ge8 : goal.returns-then-i-ge8
unfolding placed
returns-then-i-ge8 c =
    rw (le-ltb _ _ c.if-i-ge8.true)

pub returns-then-waits : goal.returns-then-waits
unfolding placed
returns-then-waits c =
    rw (lt-ltb _ _ c.if-i-ge8.false, c.without.ensures, sym c.waits.ensures ∙ c.if-waits.true)

pub returns-else-waits : goal.returns-else-waits
unfolding placed
returns-else-waits c =
    rw (lt-ltb _ _ c.if-i-ge8.false, c.with.ensures, sym c.waits.ensures ∙ c.if-waits.false)
