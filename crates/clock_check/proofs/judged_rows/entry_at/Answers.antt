-- `clock_check::judged_rows::entry_at` meets its contract. Assumes nothing.
use Rattle.clock_nodes.specs.Rows.{entry_at}
use Rattle.clock_check.proofs.judged_rows.entry_at.Goals as goal

pub returns : goal.returns
unfolding entry_at
returns c =
    c.word_at.ensures
