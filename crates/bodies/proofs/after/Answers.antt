-- The place after a place, by cases on the limit 4,096. Assumes nothing.
use mathlib.Core.Path.{sym}
use Rattle.bodies.proofs.Filling.{after-in, after-out}
use Rattle.bodies.proofs.after.Goals as goal

pub returns-then-place-lt4096 : goal.returns-then-place-lt4096
returns-then-place-lt4096 c =
    sym (after-in _ c.if-place-lt4096.true)

pub returns-else-place-lt4096 : goal.returns-else-place-lt4096
returns-else-place-lt4096 c =
    sym (after-out _ c.if-place-lt4096.false)
