-- `workload::inputs_at` meets its contract. Assumes nothing.
use mathlib.Core.Path.{refl}
use Rattle.workload.specs.Workload.{inputs_at}
use Rattle.workload.proofs.inputs_at.Goals as goal

pub returns : goal.returns
unfolding inputs_at
returns c =
    rw (c.row_of-numbers.ensures, c.row_of-marks.ensures, c.inputs.ensures) refl
