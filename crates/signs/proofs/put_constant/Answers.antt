-- `signs::put_constant` meets its contract. Assumes nothing.
use borrow.Author.Rules.{rules}
use Rattle.writing.specs.Ascii.{ascii}
use Rattle.writing.proofs.Buffer.{both}
use Rattle.signs.specs.Signs.{constant_text}
use Rattle.signs.proofs.put_constant.Goals as goal

pub returns : goal.returns
unfolding ascii constant_text
returns c =
    both _ _ _ _ _ c.put_decimal-p.ensures
    (both _ _ _ _ _ c.put_word-q.ensures c.put_decimal.ensures)
