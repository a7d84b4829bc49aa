-- A pair of the sheet below the count, and no term past it.
use borrow.Author.Tests.{lt-ltb, le-ltb}
use Rattle.pseudocode.specs.Fetching.{term_from}
use Rattle.pseudocode.proofs.term_from.Goals as goal

pub returns-then-k-count : goal.returns-then-k-count
unfolding term_from
returns-then-k-count c =
    rw (
      lt-ltb _ _ c.if-k-count.true,
      c.edge_of.ensures,
      c.byte_at.ensures,
      c.byte_at-then-k-count.ensures,
    )

pub returns-else-k-count : goal.returns-else-k-count
unfolding term_from
returns-else-k-count c =
    rw (le-ltb _ _ c.if-k-count.false, c.no_term.ensures)
