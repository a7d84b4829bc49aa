-- `rules::register_of` meets its contract. Assumes nothing.
use mathlib.Core.Path.{sym}
use Rattle.rules.proofs.Writing.{register_of-input, register_of-past}
use Rattle.rules.proofs.register_of.Goals as goal

pub returns-then-t-inputs : goal.returns-then-t-inputs
returns-then-t-inputs c =
    sym (register_of-input _ _ c.if-t-inputs.true)

pub returns-else-t-inputs : goal.returns-else-t-inputs
returns-else-t-inputs c =
    sym (register_of-past _ _ c.if-t-inputs.false)
