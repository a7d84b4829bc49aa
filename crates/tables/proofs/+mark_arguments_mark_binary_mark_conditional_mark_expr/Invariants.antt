-- The variables of an expression are marked by four functions that call each other; each meets its contract.
-- The measure goes by the depth, an expression of depth d hands its operands on at depth d - 1, and by the number of arguments,
-- at most four. Assumes nothing.
use Prim.Native.Nat.{◌+◌, ◌*◌}
use Rattle.tables.proofs.+mark_arguments_mark_binary_mark_conditional_mark_expr.Given as goal

abbrev pub decreases-mark_arguments : goal.decreases-mark_arguments
decreases-mark_arguments l = 6 * l.depth + l.count + 1

abbrev pub decreases-mark_binary : goal.decreases-mark_binary
decreases-mark_binary l = 6 * l.depth + 1

abbrev pub decreases-mark_conditional : goal.decreases-mark_conditional
decreases-mark_conditional l = 6 * l.depth + 1

abbrev pub decreases-mark_expr : goal.decreases-mark_expr
decreases-mark_expr l = 6 * l.depth
