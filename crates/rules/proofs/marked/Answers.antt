-- `rules::marked` meets its contract. Assumes nothing.
use mathlib.Core.Path.{refl, ◌∙◌}
use borrow.Author.Tests.{lt-ltb, le-ltb}
use Rattle.rules.specs.Judging.{marked}
use Rattle.rules.proofs.marked.Goals as goal

pub returns-then-i-lt8 : goal.returns-then-i-lt8
unfolding marked
returns-then-i-lt8 c =
    rw (lt-ltb _ _ c.if-i-lt8.true) c.has.ensures

pub returns-else-i-lt8 : goal.returns-else-i-lt8
unfolding marked
returns-else-i-lt8 c =
    let e = le-ltb _ _ c.if-i-lt8.false in
    e ∙ rw e refl
