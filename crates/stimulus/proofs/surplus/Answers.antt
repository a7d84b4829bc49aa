-- `stimulus::surplus` meets its contract. Assumes nothing.
use mathlib.Core.Path.{sym, ◌∙◌}
use Rattle.stimulus.specs.Lines.{surplus}
use Rattle.stimulus.proofs.surplus.Goals as goal

pub returns-then-at_end : goal.returns-then-at_end
unfolding surplus
returns-then-at_end c =
    rw (sym c.at_end.ensures ∙ c.if-at_end.true)

pub returns-else-at_end : goal.returns-else-at_end
unfolding surplus
returns-else-at_end c =
    rw (sym c.at_end.ensures ∙ c.if-at_end.false)
