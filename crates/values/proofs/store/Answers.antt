-- `values::store` meets its contract.
use Rattle.std.proofs.Common.{refl}
use Rattle.values.specs.Cells.{cell_of}
use Rattle.values.proofs.store.Goals as goal

pub returns : goal.returns
unfolding cell_of
returns c =
    refl
