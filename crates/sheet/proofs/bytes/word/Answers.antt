-- `sheet::bytes::word` meets its contract. Assumes nothing.
use native.Mathlib.Omega.{arith}
use Rattle.sheet.specs.Reading.{word}
use Rattle.sheet.proofs.bytes.word.Goals as goal

pub returns : goal.returns
unfolding word
returns c =
    omega (arith, c.from_le_bytes.ensures)
