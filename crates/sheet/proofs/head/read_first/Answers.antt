-- `sheet::head::read_first` meets its contract, case by case. Assumes nothing.
use Rattle.sheet.proofs.Answers.{answer-byte, answer-byte-refused}
use Rattle.sheet.proofs.Sections.{first-end, first-none, first-many, first_made}
use Rattle.sheet.proofs.head.read_first.Goals as goal
use Rattle.sheet.proofs.head.read_first.Goals.{then-inputs-lt1-via-then-inputs-lt1, then-inputs-lt1-via-else-inputs-lt1+then-inputs-gt16}

pub returns-then-end-at : goal.returns-then-end-at
returns-then-end-at c =
    answer-byte-refused (first-end _ _ c.if-end-at.true)

pub returns-then-inputs-lt1 : goal.returns-then-inputs-lt1
returns-then-inputs-lt1 c =
    answer-byte-refused (elim c.then-inputs-lt1.branch [
      | then-inputs-lt1-via-then-inputs-lt1 w ↦ first-none _ _ c.if-end-at.false c.inputs_of-inputs.ensures w.if-inputs-lt1.true
      | then-inputs-lt1-via-else-inputs-lt1+then-inputs-gt16 w ↦ first-many _ _ c.if-end-at.false c.inputs_of-inputs.ensures w.if-inputs-gt16.true
    ])

pub returns : goal.returns
returns c =
    answer-byte (first_made _ _ c.if-end-at.false c.inputs_of-inputs.ensures c.if-inputs-lt1.false c.if-inputs-gt16.false)
