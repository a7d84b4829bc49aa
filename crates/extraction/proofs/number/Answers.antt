-- `extraction::number` meets its contract. Assumes nothing.
use borrow.Author.Rules.{rules}
use mathlib.Core.Path.{refl}
use Rattle.nextstate.specs.Extraction.{expressions}
use Rattle.extraction.proofs.Extracting.{number-in}
use Rattle.extraction.proofs.number.Goals as goal

pub expressions-requires : goal.expressions-requires
expressions-requires c =
    (refl, refl)

pub returns : goal.returns
returns c =
    number-in (expressions c.args.sheet.now) c.expressions.result _ _ c.expressions.ensures
