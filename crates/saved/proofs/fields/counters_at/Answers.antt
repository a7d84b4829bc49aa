-- `saved::fields::counters_at` meets its contract. Assumes nothing.
use Rattle.saved.specs.Saved.{counters_at}
use Rattle.saved.proofs.fields.counters_at.Goals as goal

pub returns : goal.returns
unfolding counters_at
returns c =
    rw (c.long_at-time.ensures, c.counts_at-counts.ensures, c.words_at-allowances.ensures)
