-- `prepared_cycles::rows::inputs_at` meets its contract. Assumes nothing.
use mathlib.Core.Path.{refl}
use Rattle.prepared_cycles.specs.Cycles.{row_inputs}
use Rattle.prepared_cycles.proofs.rows.inputs_at.Goals as goal

pub returns : goal.returns
unfolding row_inputs
returns c =
    rw (c.numbers_at-numbers.ensures, c.numbers_at-marks.ensures, c.inputs.ensures) refl
