-- `sheet::head::head_end` meets its contract, case by case. Assumes nothing.
use native.Mathlib.Omega.{arith}
use Rattle.sheet.proofs.Stages.{widths-bound, head-end, head-end-refused}
use Rattle.sheet.proofs.head.head_end.Goals as goal

pub overflow_add-result : goal.overflow_add-result
overflow_add-result c =
    omega (arith, widths-bound _ c.widths_at.ensures)

pub overflow_add-result-in-Read : goal.overflow_add-result-in-Read
overflow_add-result-in-Read c =
    omega (arith, widths-bound _ c.widths_at.ensures)

pub overflow_add-result-in-Read-2 : goal.overflow_add-result-in-Read-2
overflow_add-result-in-Read-2 c =
    omega (arith, widths-bound _ c.widths_at.ensures)

pub returns-in-Refused : goal.returns-in-Refused
returns-in-Refused c =
    head-end-refused c.in-Refused.is

pub returns-in-Read : goal.returns-in-Read
returns-in-Read c =
    head-end c.in-Read.is c.widths_at.ensures
