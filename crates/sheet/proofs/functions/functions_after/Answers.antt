-- `sheet::functions::functions_after` meets its contract, case by case. Assumes nothing.
use mathlib.Core.Path.{◌∙◌, ap}
use Rattle.sheet.specs.Parts.{functions_answer}
use Rattle.sheet.proofs.Sections.{headed, head-refused}
use Rattle.sheet.proofs.Stages.{sheet-headed, stage-head, functions-after-no, functions-after-head}
use Rattle.sheet.proofs.functions.functions_after.Goals as goal

pub read_functions-requires : goal.read_functions-requires
read_functions-requires c =
    let s = c.args.sheet.now in
    (headed s (sheet-headed s (stage-head s c.requires c.in-Read.is)).1).functions-most

pub returns-in-Refused : goal.returns-in-Refused
returns-in-Refused c =
    functions-after-no _ _ (head-refused c.requires c.in-Refused.is)

pub returns-in-Read : goal.returns-in-Read
returns-in-Read c =
    let s = c.args.sheet.now in
    c.read_functions.ensures ∙ ap functions_answer (functions-after-head s _ (stage-head s c.requires c.in-Read.is))
