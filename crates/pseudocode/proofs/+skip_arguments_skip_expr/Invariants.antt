-- The place after an expression, node by node, and after a call's arguments; what is left of the depth falls, or the number of
-- arguments.
use Prim.Native.Nat.{◌+◌, ◌*◌}
use Rattle.pseudocode.proofs.+skip_arguments_skip_expr.Given as goal

abbrev pub decreases-skip_arguments : goal.decreases-skip_arguments
decreases-skip_arguments l = 6 * l.depth + l.count + 1

abbrev pub decreases-skip_expr : goal.decreases-skip_expr
decreases-skip_expr l = 6 * l.depth
