-- `explaining::after` meets its contract. Assumes nothing.
use mathlib.Core.Path.{sym}
use Rattle.pseudocode.proofs.Filling.{after-in, after-out}
use Rattle.explaining.proofs.after.Goals as goal

pub returns-then-n-lt256 : goal.returns-then-n-lt256
returns-then-n-lt256 c =
    sym (after-in _ c.if-n-lt256.true)

pub returns-else-n-lt256 : goal.returns-else-n-lt256
returns-else-n-lt256 c =
    sym (after-out _ c.if-n-lt256.false)
