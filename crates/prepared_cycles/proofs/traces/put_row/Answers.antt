-- `prepared_cycles::traces::put_row` meets its contract. Assumes nothing.
use native.Mathlib.Omega.{arith}
use mathlib.Core.Path.{◌∙◌}
use Rattle.prepared_cycles.proofs.Items.{row-parts}
use Rattle.prepared_cycles.proofs.traces.put_row.Goals as goal

pub overflow_mul-p : goal.overflow_mul-p
overflow_mul-p c =
    omega arith

pub overflow_mul-p-2 : goal.overflow_mul-p-2
overflow_mul-p-2 c =
    omega arith

pub overflow_add-p : goal.overflow_add-p
overflow_add-p c =
    omega arith

pub shape_of-out : goal.shape_of-out
shape_of-out c =
    c.put_places.auto.out ∙ c.put_words.auto.out

pub returns : goal.returns
returns c =
    let a = c.args in
    row-parts a.p a.out.now a.cells.now a.stood.now _ _ c.put_words.ensures c.put_places.ensures
