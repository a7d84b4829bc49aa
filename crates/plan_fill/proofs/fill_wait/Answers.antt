-- `plan_fill::fill_wait` meets its contract. Assumes nothing.
use mathlib.Core.Path.{refl}
use Rattle.plan_fill.proofs.Filling.{wait-filled}
use Rattle.plan_fill.proofs.fill_wait.Goals as goal

pub returns : goal.returns
returns c =
    let a = c.args in
    wait-filled a.t a.at a.free a.plan.now c.term_count.ensures c.put_terms-next.ensures
    refl c.put_four.ensures
