-- `saved::loading::zero_state` meets its contract. Assumes nothing.
use mathlib.Core.Path.{refl}
use Rattle.saved.specs.Saved.{zero_state}
use Rattle.saved.proofs.loading.zero_state.Goals as goal

pub returns : goal.returns
unfolding zero_state
returns c =
    refl
