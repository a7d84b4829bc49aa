-- `sheet::body::refused` meets its contract. Assumes nothing.
use mathlib.Core.Path.{refl}
use Rattle.sheet.specs.Answers.{sheet_answer, blank}
use Rattle.sheet.proofs.body.refused.Goals as goal

pub returns : goal.returns
unfolding sheet_answer blank
returns c =
    refl
