-- The place after a place, by cases on the limit 256.
use mathlib.Core.Path.{sym}
use Rattle.pseudocode.proofs.Filling.{after-in, after-out}
use Rattle.pseudocode.proofs.after.Goals as goal

pub returns-then-place-lt256 : goal.returns-then-place-lt256
returns-then-place-lt256 c =
    sym (after-in _ c.if-place-lt256.true)

pub returns-else-place-lt256 : goal.returns-else-place-lt256
returns-else-place-lt256 c =
    sym (after-out _ c.if-place-lt256.false)
