-- `text::print_expr` and `text::print_operands` meet their contracts; the depth falls, or the number of operands.
-- Assumes nothing.
use Prim.Native.Nat.{◌+◌, ◌*◌}
use Rattle.text.proofs.+print_expr_print_operands.Given as goal

abbrev pub decreases-print_expr : goal.decreases-print_expr
decreases-print_expr l = l.depth * 256

abbrev pub decreases-print_operands : goal.decreases-print_operands
decreases-print_operands l = l.depth * 256 + l.n + 1
