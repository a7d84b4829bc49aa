-- `verilog::print_stmt` and `verilog::print_bodies` meet their contracts; the depth falls, or the number of bodies.
-- Assumes nothing.
use Prim.Native.Nat.{◌+◌, ◌*◌}
use Rattle.verilog.proofs.+print_bodies_print_stmt.Given as goal

abbrev pub decreases-print_bodies : goal.decreases-print_bodies
decreases-print_bodies l = l.depth * 256 + l.rest.left + 1

abbrev pub decreases-print_stmt : goal.decreases-print_stmt
decreases-print_stmt l = l.depth * 256
