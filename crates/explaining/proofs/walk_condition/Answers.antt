-- `explaining::walk_condition` meets its contract. Assumes nothing.
use Rattle.explaining.proofs.Walking.{condition-walk}
use Rattle.explaining.proofs.walk_condition.Goals as goal

pub returns : goal.returns
returns c =
    condition-walk _ _ _ _ _ c.skip_expr-next.ensures c.say_condition-pos.ensures
