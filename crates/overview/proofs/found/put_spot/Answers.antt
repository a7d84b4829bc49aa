-- `overview::found::put_spot` meets its contract. Assumes nothing.
use borrow.Author.Rules.{rules}
use Rattle.writing.specs.Ascii.{ascii}
use Rattle.writing.proofs.Buffer.{both}
use Rattle.overview.specs.Found.{spot_words}
use Rattle.overview.proofs.found.put_spot.Goals as goal

pub returns : goal.returns
unfolding ascii spot_words
returns c =
    rw (← c.spot-s.ensures)
    (both _ _ _ _ _ (both _ _ _ _ _ c.put_labelled-a.ensures c.put_labelled-b.ensures) c.put_word.ensures)
