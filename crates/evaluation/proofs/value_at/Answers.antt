-- `evaluation::value_at` meets its contract. Assumes nothing.
use borrow.Author.Rules.{rules}
use Rattle.values.specs.Cells.{cell_at}
use Rattle.evaluation.proofs.value_at.Goals as goal

pub returns : goal.returns
unfolding cell_at
returns c = search rules
