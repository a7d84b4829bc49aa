-- `driving::states::row_of` meets its contract. Assumes nothing.
use mathlib.Core.Path.{refl}
use Rattle.driving.proofs.Plans.{row-whole}
use Rattle.driving.proofs.states.row_of.Goals as goal

pub returns : goal.returns
returns c =
    row-whole c.args.st _ _ _ refl c.put_words.ensures c.put_places.ensures
