-- `overview::found::put_place` meets its contract. Assumes nothing.
use borrow.Author.Rules.{rules}
use Rattle.writing.specs.Ascii.{ascii}
use Rattle.writing.proofs.Buffer.{both}
use Rattle.overview.specs.Found.{place_words}
use Rattle.overview.proofs.found.put_place.Goals as goal

pub returns-then-hex : goal.returns-then-hex
unfolding place_words
returns-then-hex c =
    rw c.if-hex.true c.put_spot.ensures

pub returns : goal.returns
unfolding ascii place_words
returns c =
    rw c.if-hex.false (both _ _ _ _ _ c.put_labelled-a.ensures c.put_word.ensures)
