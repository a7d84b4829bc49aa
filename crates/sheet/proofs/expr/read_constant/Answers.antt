-- `sheet::expr::read_constant` meets its contract: a width and a value are the constant. Assumes nothing.
use mathlib.Core.Path.{◌∙◌}
use Rattle.sheet.proofs.Stages.{constant-stages}
use Rattle.sheet.proofs.expr.read_constant.Goals as goal

pub returns : goal.returns
returns c =
    c.constant_at.ensures ∙ constant-stages _ _ _ _
