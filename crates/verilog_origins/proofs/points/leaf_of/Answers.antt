-- `verilog_origins::points::leaf_of` meets its contract. Assumes nothing.
use native.Mathlib.Omega.{arith}
use Rattle.verilog_origins.proofs.Pointing.{leaf-whole}
use Rattle.verilog_origins.proofs.points.leaf_of.Goals as goal

pub overflow_mul-result : goal.overflow_mul-result
overflow_mul-result c =
    omega (arith, c.whole-2.ensures.1)

pub overflow_add-result : goal.overflow_add-result
overflow_add-result c =
    omega (arith, c.whole-2.ensures.1, c.whole.ensures.1)

pub returns : goal.returns
returns c =
    leaf-whole _ _ _ c.whole.ensures.0 c.whole-2.ensures.0
