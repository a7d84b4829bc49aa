-- `prepared_cycles::traces::word_in` meets its contract. Assumes nothing.
use mathlib.Core.Path.{ap, ◌∙◌}
use Rattle.values.specs.Cells.{cell_of}
use Rattle.prepared_cycles.proofs.traces.word_in.Goals as goal

pub returns : goal.returns
returns c =
    c.store.ensures ∙ ap cell_of c.load.ensures
