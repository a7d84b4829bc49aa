-- `drawing::depth` meets its contract. Assumes nothing.
use borrow.Author.Rules.{rules}
use Rattle.drawing.specs.Drawing.{depth}
use Rattle.drawing.proofs.depth.Goals as goal

pub returns : goal.returns
unfolding depth
returns c = search rules
