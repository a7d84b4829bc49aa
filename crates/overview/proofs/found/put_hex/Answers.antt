-- `overview::found::put_hex` meets its contract. Assumes nothing.
use borrow.Author.Rules.{rules}
use Rattle.writing.specs.Ascii.{ascii}
use Rattle.writing.proofs.Buffer.{both}
use Rattle.overview.specs.Found.{hex_of}
use Rattle.overview.proofs.found.put_hex.Goals as goal

pub returns : goal.returns
unfolding ascii hex_of
returns c =
    both _ _ _ _ _ (both _ _ _ _ _
    (rw c.digit.ensures at c.put_byte-p.ensures)
    (rw c.digit-2.ensures at c.put_byte-q.ensures))
    c.put_word.ensures
