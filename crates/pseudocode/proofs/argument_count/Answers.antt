-- How many arguments a call has: none past the last function, and at most four.
use mathlib.Core.Path.{sym, ◌∙◌}
use Rattle.pseudocode.proofs.Skipping.{arguments-past, arguments-least}
use Rattle.pseudocode.proofs.argument_count.Goals as goal

pub returns-then-n-ge8 : goal.returns-then-n-ge8
returns-then-n-ge8 c =
    sym (arguments-past _ _ _ c.if-n-ge8.true)

pub returns : goal.returns
returns c =
    c.min.ensures ∙ arguments-least _ _ _ c.if-n-ge8.false c.byte_at.ensures
