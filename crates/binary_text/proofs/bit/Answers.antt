-- `binary_text::bit` meets its contract. Assumes nothing.
use mathlib.Core.Path.{sym}
use Rattle.binary_text.proofs.BinaryText.{bit-known, bit-unknown}
use borrow.Author.Rules.{rules}
use Rattle.binary_text.proofs.bit.Goals as goal

pub returns-then-marks-ne0 : goal.returns-then-marks-ne0
returns-then-marks-ne0 c =
    sym (bit-unknown _ _ c.if-marks-ne0.true)

pub returns : goal.returns
returns c =
    sym (bit-known _ _ c.if-marks-ne0.false)
