-- `plan_fill::fill_go` meets its contract. Assumes nothing.
use Rattle.plan_fill.proofs.fill_go.Goals as goal

pub returns : goal.returns
returns c =
    rw c.put_four.ensures
