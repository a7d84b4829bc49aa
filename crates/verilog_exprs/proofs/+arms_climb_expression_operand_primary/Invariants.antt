-- The expression and its parts meet their contracts: `arms`, `climb`, `expression`, `operand`, `primary`. Fuel falls, or the turns left.
-- Assumes nothing.
use Prim.Native.Nat.{◌+◌}
use Rattle.verilog_exprs.proofs.Exprs.{weight}
use Rattle.verilog_exprs.proofs.+arms_climb_expression_operand_primary.Given as goal

abbrev pub decreases-arms : goal.decreases-arms
decreases-arms l = weight l.fuel + 1

abbrev pub decreases-climb : goal.decreases-climb
decreases-climb l = weight l.fuel + l.turns + 1

abbrev pub decreases-expression : goal.decreases-expression
decreases-expression l = weight l.fuel

abbrev pub decreases-operand : goal.decreases-operand
decreases-operand l = weight l.fuel + 2

abbrev pub decreases-primary : goal.decreases-primary
decreases-primary l = weight l.fuel + 1
