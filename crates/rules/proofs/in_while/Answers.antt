-- `rules::in_while` meets its contract. Assumes nothing.
use mathlib.Core.Path.{refl}
use Rattle.rules.specs.Walking.{in_while}
use Rattle.rules.proofs.in_while.Goals as goal

pub returns-then-a : goal.returns-then-a
unfolding in_while
returns-then-a c =
    rw c.if-a.true refl

pub returns-else-a : goal.returns-else-a
unfolding in_while
returns-else-a c =
    rw c.if-a.false refl
