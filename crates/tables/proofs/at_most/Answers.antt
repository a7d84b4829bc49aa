-- `tables::at_most` meets its contract. Assumes nothing.
use mathlib.Core.Path.{◌∙◌}
use Rattle.tables.proofs.Readers.{min-at_most}
use Rattle.tables.proofs.at_most.Goals as goal

pub returns : goal.returns
returns c =
    c.min.ensures ∙ min-at_most _ _
