-- `saved::bringing::alone` meets its contract. Assumes nothing.
use mathlib.Core.Path.{refl}
use Rattle.saved.specs.Older.{alone}
use Rattle.saved.proofs.bringing.alone.Goals as goal

pub returns : goal.returns
unfolding alone
returns c =
    refl
