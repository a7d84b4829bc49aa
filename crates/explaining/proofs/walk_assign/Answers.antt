-- `explaining::walk_assign` meets its contract. Assumes nothing.
use Rattle.explaining.proofs.Walking.{assign-walk}
use Rattle.explaining.proofs.walk_assign.Goals as goal

pub returns : goal.returns
returns c =
    assign-walk _ _ _ _ _ _ c.skip_expr-next.ensures c.say_assign-pos.ensures
