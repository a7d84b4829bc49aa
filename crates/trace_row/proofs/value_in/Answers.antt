-- `trace_row::value_in` meets its contract. Assumes nothing.
use mathlib.Core.Path.{ap, ◌∙◌}
use Rattle.values.specs.Cells.{value_of, cell_at}
use borrow.Author.Rules.{rules}
use Rattle.trace_row.proofs.value_in.Goals as goal

pub returns : goal.returns
unfolding cell_at
returns c =
    c.load.ensures ∙ ap value_of c.word_at.ensures
