-- `values::load` meets its contract.
use Rattle.std.proofs.Common.{refl}
use Rattle.values.specs.Cells.{number_in, marks_in, value_of}
use Rattle.values.proofs.load.Goals as goal

pub returns : goal.returns
unfolding value_of number_in marks_in
returns c =
    refl
