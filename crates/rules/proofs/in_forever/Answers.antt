-- `rules::in_forever` meets its contract. Assumes nothing.
use mathlib.Core.Path.{refl}
use Rattle.rules.specs.Walking.{in_forever}
use Rattle.rules.proofs.in_forever.Goals as goal

pub returns-then-a : goal.returns-then-a
unfolding in_forever
returns-then-a c =
    rw c.if-a.true refl

pub returns-else-a : goal.returns-else-a
unfolding in_forever
returns-else-a c =
    rw c.if-a.false refl
