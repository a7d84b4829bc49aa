-- `sheet::read` meets its contract: the length, the first byte, then the whole reading. Assumes nothing.
use mathlib.Core.Path.{ap, sym, ◌∙◌}
use native.Mathlib.Omega.{arith}
use Rattle.sheet.specs.Answers.{sheet_answer}
use Rattle.sheet.proofs.Closed.{closed, sheet-long, sheet-functioned}
use Rattle.sheet.proofs.read.Goals as goal

pub returns-then-sheet-gt8192 : goal.returns-then-sheet-gt8192
returns-then-sheet-gt8192 c =
    c.refused.ensures ∙ sym (ap sheet_answer (sheet-long _ c.if-sheet-gt8192.true))

pub returns-then-byte_at-ge128 : goal.returns-then-byte_at-ge128
returns-then-byte_at-ge128 c =
    c.refused-then-byte_at-ge128.ensures
    ∙ sym (ap sheet_answer (sheet-functioned _ c.if-sheet-gt8192.false (omega (arith, c.if-byte_at-ge128.true, c.byte_at.ensures))))

pub returns : goal.returns
returns c =
    c.read_whole.ensures
    ∙ sym (ap sheet_answer (closed _ _ (omega (arith, c.if-byte_at-ge128.false, c.byte_at.ensures))))
