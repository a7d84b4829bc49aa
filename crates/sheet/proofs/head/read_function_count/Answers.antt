-- `sheet::head::read_function_count` meets its contract, case by case. Assumes nothing.
use mathlib.Core.Path.{sym, ap, ◌∙◌}
use Rattle.sheet.specs.Parts.{byte_answer}
use Rattle.sheet.proofs.Answers.{answer-byte}
use Rattle.sheet.proofs.Sections.{count_none, count-given}
use Rattle.sheet.proofs.head.read_function_count.Goals as goal

pub returns-then-first-lt128 : goal.returns-then-first-lt128
returns-then-first-lt128 c =
    answer-byte (count_none _ _ _ c.if-first-lt128.true)

pub returns : goal.returns
returns c =
    c.read_within.ensures ∙ ap byte_answer (sym (count-given _ _ _ c.if-first-lt128.false))
