-- `saved::fields::long_at` meets its contract. Assumes nothing.
use Rattle.saved.specs.Saved.{long_of}
use Rattle.saved.proofs.fields.long_at.Goals as goal

pub returns : goal.returns
unfolding long_of
returns c =
    rw (c.word_at-low.ensures, c.word_at-high.ensures)
