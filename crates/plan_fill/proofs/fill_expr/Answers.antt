-- `plan_fill::fill_expr` meets its contract. Assumes nothing.
use Rattle.plan_fill.proofs.Filling.{expr-filled}
use Rattle.plan_fill.proofs.fill_expr.Goals as goal

pub returns : goal.returns
returns c =
    let a = c.args in
    expr-filled a.sheet.now a.start a.kind a.number a.at a.free a.plan.now _ _ _
    c.add_expr-a.ensures c.put_four.ensures
