-- `sheet::head::other_widths` meets its contract, case by case. Assumes nothing.
use native.Mathlib.Omega.{arith}
use Rattle.sheet.proofs.Stages.{widths-bound, other-widths, other-widths-refused}
use Rattle.sheet.proofs.head.other_widths.Goals as goal

pub overflow_add-result : goal.overflow_add-result
overflow_add-result c =
    omega (arith, widths-bound _ c.widths_at.ensures)

pub returns-in-Refused : goal.returns-in-Refused
returns-in-Refused c =
    other-widths-refused c.in-Refused.is

pub returns-in-Read : goal.returns-in-Read
returns-in-Read c =
    other-widths c.in-Read.is c.widths_at.ensures
