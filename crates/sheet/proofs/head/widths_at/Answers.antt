-- `sheet::head::widths_at` meets its contract, case by case. Assumes nothing.
use borrow.Author.Tests.{lt-ltb, le-ltb}
use Rattle.sheet.specs.Module.{widths_at}
use Rattle.sheet.proofs.head.widths_at.Goals as goal

pub returns-then-functions-gt0 : goal.returns-then-functions-gt0
unfolding widths_at
returns-then-functions-gt0 c =
    simp (lt-ltb _ _ c.if-functions-gt0.true)

pub returns-else-functions-gt0 : goal.returns-else-functions-gt0
unfolding widths_at
returns-else-functions-gt0 c =
    simp (le-ltb _ _ c.if-functions-gt0.false)
