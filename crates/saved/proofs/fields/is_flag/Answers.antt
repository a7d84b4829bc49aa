-- `saved::fields::is_flag` meets its contract. Assumes nothing.
use Rattle.saved.specs.Saved.{is_flag}
use Rattle.saved.proofs.fields.is_flag.Goals as goal

pub returns : goal.returns
unfolding is_flag
returns c =
    rw c.byte_at.ensures
