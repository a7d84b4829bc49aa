-- `reasons::put_reason` meets its contract: the table of the code is that of the definition. Assumes nothing.
use borrow.Author.Rules.{rules}
use Rattle.writing.specs.Ascii.{ascii}
use Rattle.reasons.specs.Reasons.{reason, refusals}
use Rattle.reasons.proofs.put_reason.Goals as goal

pub returns : goal.returns
unfolding reason refusals ascii
returns c =
    c.put_line.ensures
