-- `signs::put_unknown` meets its contract. Assumes nothing.
use borrow.Author.Rules.{rules}
use Rattle.writing.specs.Ascii.{ascii}
use Rattle.writing.proofs.Buffer.{both}
use Rattle.signs.specs.Signs.{unknown_text}
use Rattle.signs.proofs.put_unknown.Goals as goal

pub returns : goal.returns
unfolding ascii unknown_text
returns c =
    both _ _ _ _ _ c.put_decimal-p.ensures c.put_word.ensures
