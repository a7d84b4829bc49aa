-- `sheet::head::widths_after` meets its contract, case by case. Assumes nothing.
use Rattle.sheet.proofs.Sections.{widths-read, widths-no}
use Rattle.sheet.proofs.Stages.{widths-after-no, widths-after-fine}
use Rattle.sheet.proofs.head.widths_after.Goals as goal

pub returns-in-Refused : goal.returns-in-Refused
returns-in-Refused c =
    widths-after-no _ _ _ c.head_end.ensures (widths-no c.read_widths.ensures c.in-Refused.is)

pub returns-in-Fine : goal.returns-in-Fine
returns-in-Fine c =
    widths-after-fine _ _ _ c.head_end.ensures (widths-read c.read_widths.ensures c.in-Fine.is).1
