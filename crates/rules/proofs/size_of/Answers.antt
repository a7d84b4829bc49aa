-- `rules::size_of` meets its contract. Assumes nothing.
use mathlib.Core.Path.{◌∙◌}
use borrow.Author.Tests.{lt-ltb, le-ltb}
use Rattle.rules.specs.Judging.{size_of}
use Rattle.rules.proofs.Counting.{at_most-min}
use Rattle.rules.proofs.size_of.Goals as goal

pub returns-then-i-lt8 : goal.returns-then-i-lt8
unfolding size_of
returns-then-i-lt8 c =
    rw (lt-ltb _ _ c.if-i-lt8.true) (c.min.ensures ∙ at_most-min 256 _)

pub returns-else-i-lt8 : goal.returns-else-i-lt8
unfolding size_of
returns-else-i-lt8 c =
    simp (le-ltb _ _ c.if-i-lt8.false)
