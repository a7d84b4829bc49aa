-- `trace_row::place_in` meets its contract. Assumes nothing.
use Rattle.trace_row.specs.TraceRow.{place_in}
use borrow.Author.Rules.{rules}
use Rattle.trace_row.proofs.place_in.Goals as goal

pub returns : goal.returns
unfolding place_in
returns c =
    c.word_at.ensures
