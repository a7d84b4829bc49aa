-- `sheet::expr::constant_from` meets its contract, case by case. Assumes nothing.
use mathlib.Core.Path.{sym, ◌∙◌}
use Rattle.sheet.proofs.Stages.{constant-no-width, constant-no-value, constant-fits, constant_wide}
use Rattle.sheet.proofs.expr.constant_from.Goals as goal

pub returns-in-Refused : goal.returns-in-Refused
returns-in-Refused c =
    constant-no-width _ _ _ c.in-Refused.is

pub returns-in-Refused-value : goal.returns-in-Refused-value
returns-in-Refused-value c =
    constant-no-value _ _ _ c.in-Byte.is c.in-Refused-value.is

pub returns-then-below : goal.returns-then-below
returns-then-below c =
    constant-fits _ _ _ c.in-Byte.is c.in-Word.is (sym c.below.ensures ∙ c.if-below.true)

pub returns-else-below : goal.returns-else-below
returns-else-below c =
    constant_wide _ _ _ c.in-Byte.is c.in-Word.is (sym c.below.ensures ∙ c.if-below.false)
