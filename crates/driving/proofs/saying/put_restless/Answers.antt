-- `driving::saying::put_restless` meets its contract. Assumes nothing.
use Rattle.writing.specs.Ascii.{ascii}
use Rattle.writing.proofs.Buffer.{both}
use Rattle.driving.specs.Saying.{restless_words}
use Rattle.driving.proofs.saying.put_restless.Goals as goal

pub returns : goal.returns
unfolding ascii restless_words
returns c =
    both _ _ _ _ _ (both _ _ _ _ _ c.put_word-p.ensures
    c.put_grouped-q.ensures) c.put_word.ensures
