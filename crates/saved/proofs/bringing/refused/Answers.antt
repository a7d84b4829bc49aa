-- `saved::bringing::refused` meets its contract. Assumes nothing.
use Rattle.saved.specs.Older.{refused}
use Rattle.saved.proofs.bringing.refused.Goals as goal

pub returns : goal.returns
unfolding refused
returns c =
    rw c.zero_state-state.ensures
