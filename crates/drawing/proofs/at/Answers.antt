-- `drawing::at` meets its contract. Assumes nothing.
use native.Mathlib.Omega.{arith}
use borrow.Author.Rules.{rules}
use Rattle.drawing.proofs.Laws.{product-below}
use Rattle.drawing.specs.Drawing.{at}
use Rattle.drawing.proofs.at.Goals as goal

pub overflow_mul-result : goal.overflow_mul-result
overflow_mul-result c =
    let p = product-below c.args.h c.args.d.unit (omega arith) (omega arith) in
    omega arith

pub returns : goal.returns
unfolding at
returns c =
    let p = product-below c.args.h c.args.d.unit (omega arith) (omega arith) in
    (record { value = search rules; upper_bound = omega (arith, p) })
