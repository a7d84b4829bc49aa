-- `verilog::print_expr` and `verilog::print_operands` meet their contracts; the depth falls, or the number of operands.
-- Assumes nothing.
use Prim.Native.Nat.{◌+◌, ◌*◌}
use Rattle.verilog.proofs.+print_expr_print_operands.Given as goal

abbrev pub decreases-print_expr : goal.decreases-print_expr
decreases-print_expr l = l.depth * 256

abbrev pub decreases-print_operands : goal.decreases-print_operands
decreases-print_operands l = l.depth * 256 + l.rest.left + 1
