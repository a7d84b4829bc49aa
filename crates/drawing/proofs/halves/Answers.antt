-- `drawing::halves` meets its contract. Assumes nothing.
use borrow.Author.Rules.{rules}
use Rattle.drawing.specs.Drawing.{halves}
use Rattle.drawing.proofs.halves.Goals as goal

pub returns-clause-value : goal.returns-clause-value
unfolding halves
returns-clause-value c = search rules
