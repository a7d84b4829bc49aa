-- `plan_changes::term_wakes` meets its contract. Assumes nothing.
use borrow.Author.Tests.{eq-eqb, ne_eqb}
use Rattle.plan_changes.specs.Changes.{term_wakes}
use Rattle.plan_changes.proofs.term_wakes.Goals as goal

pub returns-then-t-v : goal.returns-then-t-v
unfolding term_wakes
returns-then-t-v c =
    rw (c.fires_cells.ensures, ← c.term-t.ensures, eq-eqb _ _ c.if-t-v.true)

pub returns-else-t-v : goal.returns-else-t-v
unfolding term_wakes
returns-else-t-v c =
    rw (← c.term-t.ensures, ne_eqb _ _ c.if-t-v.false)
