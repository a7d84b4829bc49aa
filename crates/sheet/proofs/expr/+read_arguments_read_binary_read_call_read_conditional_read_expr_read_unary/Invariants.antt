-- `sheet::expr::read_expr` and the functions that read its operator nodes and its calls meet their contracts: each way through
-- the code is a law of proofs/Nodes or proofs/Passing. The measure is 300 times the levels left, and more in a node: by the
-- parameters that are left, in a call's arguments. Assumes nothing.
use Prim.Native.Nat.{◌+◌, ◌*◌}
use lib.ListN.{length}
use Rattle.sheet.proofs.expr.+read_arguments_read_binary_read_call_read_conditional_read_expr_read_unary.Given as goal

abbrev pub decreases-read_arguments : goal.decreases-read_arguments
decreases-read_arguments l = 300 * l.depth + length l.parameters.now + 1

abbrev pub decreases-read_binary : goal.decreases-read_binary
decreases-read_binary l = 300 * l.depth + 299

abbrev pub decreases-read_call : goal.decreases-read_call
decreases-read_call l = 300 * l.depth + 299

abbrev pub decreases-read_conditional : goal.decreases-read_conditional
decreases-read_conditional l = 300 * l.depth + 299

abbrev pub decreases-read_expr : goal.decreases-read_expr
decreases-read_expr l = 300 * l.depth

abbrev pub decreases-read_unary : goal.decreases-read_unary
decreases-read_unary l = 300 * l.depth + 299
