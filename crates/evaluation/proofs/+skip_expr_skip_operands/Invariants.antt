-- An expression is passed by two functions that call each other; each meets its contract.
-- The measure goes by the depth, then by the operands that are left. Assumes nothing.
use Prim.Native.Nat.{◌+◌, ◌*◌}
use Rattle.evaluation.proofs.+skip_expr_skip_operands.Given as goal

abbrev pub decreases-skip_expr : goal.decreases-skip_expr
decreases-skip_expr l = 512 * l.depth

abbrev pub decreases-skip_operands : goal.decreases-skip_operands
decreases-skip_operands l = 512 * l.depth + l.count + 1
