-- `saved::saving::put_long` meets its contract. Assumes nothing.
use mathlib.Core.Path.{◌∙◌}
use Rattle.saved.proofs.Stores.{long-sets}
use Rattle.saved.proofs.saving.put_long.Goals as goal

pub returns : goal.returns
returns c =
    c.put_word-2.ensures ∙ rw c.put_word.ensures (long-sets _ _ _)
