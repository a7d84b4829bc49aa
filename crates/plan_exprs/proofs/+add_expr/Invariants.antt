-- `plan_exprs::add_expr` meets its contract, node by node; what is left of the depth falls. Assumes nothing.
use Rattle.plan_exprs.proofs.+add_expr.Given as goal

abbrev pub decreases-add_expr : goal.decreases-add_expr
decreases-add_expr l = l.depth
