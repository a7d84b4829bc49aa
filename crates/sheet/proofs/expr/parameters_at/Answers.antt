-- `sheet::expr::parameters_at` meets its contract, case by case. Assumes nothing.
use Rattle.sheet.proofs.Outlines.{parameters-next, parameters-none}
use Rattle.sheet.proofs.expr.parameters_at.Goals as goal

pub returns-then-place-end : goal.returns-then-place-end
returns-then-place-end c =
    parameters-next _ _ c.if-place-end.true

pub returns-else-place-end : goal.returns-else-place-end
returns-else-place-end c =
    parameters-none _ _ c.if-place-end.false
