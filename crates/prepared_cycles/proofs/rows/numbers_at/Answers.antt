-- `prepared_cycles::rows::numbers_at` meets its contract. Assumes nothing.
use native.Mathlib.Omega.{arith}
use Rattle.prepared_cycles.proofs.Items.{row-copied}
use Rattle.prepared_cycles.proofs.rows.numbers_at.Goals as goal

pub overflow_mul-at : goal.overflow_mul-at
overflow_mul-at c =
    omega arith

pub returns : goal.returns
returns c =
    let p = c.args in
    row-copied p.value.now p.first p.row _ c.requires c.copy_from_slice.ensures.after
