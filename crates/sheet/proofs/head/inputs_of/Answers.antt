-- `sheet::head::inputs_of` meets its contract, case by case. Assumes nothing.
use borrow.Author.Tests.{lt-ltb, le-ltb}
use Rattle.sheet.specs.Module.{inputs_of}
use Rattle.sheet.proofs.head.inputs_of.Goals as goal

pub returns-then-first-lt128 : goal.returns-then-first-lt128
unfolding inputs_of
returns-then-first-lt128 c =
    simp (lt-ltb _ _ c.if-first-lt128.true)

pub returns-else-first-lt128 : goal.returns-else-first-lt128
unfolding inputs_of
returns-else-first-lt128 c =
    simp (le-ltb _ _ c.if-first-lt128.false)
