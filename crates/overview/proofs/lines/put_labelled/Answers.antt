-- `overview::lines::put_labelled` meets its contract. Assumes nothing.
use borrow.Author.Rules.{rules}
use Rattle.writing.proofs.Buffer.{both}
use Rattle.overview.proofs.lines.put_labelled.Goals as goal

pub returns : goal.returns
returns c =
    both _ _ _ _ _ c.put_word-p.ensures c.put_decimal.ensures
