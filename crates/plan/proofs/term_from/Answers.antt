-- `plan::term_from` meets its contract: a term below the count, and none past it.
use borrow.Author.Tests.{lt-ltb, le-ltb}
use Rattle.plan.specs.Plan.{term_from}
use Rattle.plan.proofs.term_from.Goals as goal

pub returns-then-k-count : goal.returns-then-k-count
unfolding term_from
returns-then-k-count c =
    rw (
      lt-ltb _ _ c.if-k-count.true,
      c.edge_of-edge.ensures,
      c.low.ensures,
      c.low-variable.ensures,
      c.slot_at-n.ensures.value,
    )

pub returns-else-k-count : goal.returns-else-k-count
unfolding term_from
returns-else-k-count c =
    rw (le-ltb _ _ c.if-k-count.false, c.no_term.ensures)
