-- `explaining::say_assign` meets its contract. Assumes nothing.
use mathlib.Core.Path.{sym, ◌∙◌}
use Rattle.explaining.proofs.Printing.{said-on, said-off}
use Rattle.explaining.proofs.say_assign.Goals as goal

pub returns-then-w : goal.returns-then-w
returns-then-w c =
    c.put_assign.ensures ∙ sym (said-on _ _ _ c.if-w.true)

pub returns : goal.returns
returns c =
    sym (said-off _ _ _ c.if-w.false)
