-- `clock_nodes::low_in` meets its contract. Assumes nothing.
use mathlib.Core.Path.{◌∙◌}
use Rattle.clock_nodes.proofs.Turns.{low-or}
use Rattle.clock_nodes.proofs.low_in.Goals as goal

pub returns : goal.returns
returns c =
    c.word_at.ensures ∙ low-or _ _ c.told-lows
