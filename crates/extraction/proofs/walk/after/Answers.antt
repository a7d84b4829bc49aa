-- `walk::after` meets its contract. Assumes nothing.
use mathlib.Core.Path.{sym}
use Rattle.pseudocode.proofs.Filling.{after-in, after-out}
use borrow.Author.Rules.{rules}
use Rattle.extraction.proofs.walk.after.Goals as goal

pub returns-then-place-lt256 : goal.returns-then-place-lt256
returns-then-place-lt256 c =
    sym (after-in _ c.if-place-lt256.true)

pub returns-else-place-lt256 : goal.returns-else-place-lt256
returns-else-place-lt256 c =
    sym (after-out _ c.if-place-lt256.false)
