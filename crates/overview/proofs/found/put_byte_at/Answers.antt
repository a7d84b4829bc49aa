-- `overview::found::put_byte_at` meets its contract. Assumes nothing.
use borrow.Author.Rules.{rules}
use Rattle.writing.specs.Ascii.{ascii}
use Rattle.writing.proofs.Buffer.{both}
use borrow.Author.Tests.{lt-ltb, le-ltb}
use Rattle.overview.specs.Found.{byte_words}
use Rattle.overview.proofs.found.put_byte_at.Goals as goal

pub returns-then-sheet-place : goal.returns-then-sheet-place
unfolding ascii byte_words
returns-then-sheet-place c =
    rw (le-ltb _ _ c.if-sheet-place.true) (both _ _ _ _ _ c.put_labelled-a.ensures c.put_word.ensures)

pub returns : goal.returns
unfolding ascii byte_words
returns c =
    rw (lt-ltb _ _ c.if-sheet-place.false)
    (both _ _ _ _ _ c.put_labelled-a.ensures (both _ _ _ _ _ c.put_word-b.ensures c.put_hex.ensures))
