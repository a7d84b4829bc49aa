-- `reasons::put_allowed` meets its contract: the table of the code is that of the definition. Assumes nothing.
use borrow.Author.Rules.{rules}
use Rattle.writing.specs.Ascii.{ascii}
use Rattle.reasons.specs.Reasons.{allowed, permissions}
use Rattle.reasons.proofs.put_allowed.Goals as goal

pub returns : goal.returns
unfolding allowed permissions ascii
returns c =
    c.put_line.ensures
