-- `saved::fields::flag_at` meets its contract. Assumes nothing.
use Rattle.saved.specs.Saved.{flag_at}
use Rattle.saved.proofs.fields.flag_at.Goals as goal

pub returns : goal.returns
unfolding flag_at
returns c =
    rw c.byte_at.ensures
