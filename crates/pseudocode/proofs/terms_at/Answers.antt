-- The terms by the count that stands in the sheet.
use mathlib.Core.Path.{◌∙◌}
use Rattle.pseudocode.specs.Fetching.{terms_at}
use Rattle.pseudocode.proofs.terms_at.Goals as goal

pub returns : goal.returns
unfolding terms_at
returns c =
    c.terms_from.ensures ∙ rw c.byte_at-count.ensures
