-- `plan_fill::fill_wire` meets its contract. Assumes nothing.
use Rattle.plan_fill.proofs.Filling.{wire-filled}
use Rattle.plan_fill.proofs.fill_wire.Goals as goal

pub returns : goal.returns
returns c =
    let a = c.args in
    wire-filled a.sheet.now a.starts.now a.k a.free a.plan.now _ _ c.add_expr-a.ensures
