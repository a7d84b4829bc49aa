-- `values::choice` meets its contract. Assumes nothing.
use Rattle.std.proofs.Common.{sym, ◌∙◌, eq-eqb, ne_eqb}
use Rattle.values.specs.Operators.{choice}
use Rattle.values.proofs.choice.Goals as goal

pub returns-then-holds : goal.returns-then-holds
unfolding choice
returns-then-holds c =
    rw (sym c.holds.ensures ∙ c.if-holds.true)

pub returns-then-condition-eq0 : goal.returns-then-condition-eq0
unfolding choice
returns-then-condition-eq0 c =
    rw (sym c.holds.ensures ∙ c.if-holds.false, eq-eqb _ _ c.if-condition-eq0.true)

pub returns-else-condition-eq0 : goal.returns-else-condition-eq0
unfolding choice
returns-else-condition-eq0 c =
    rw (sym c.holds.ensures ∙ c.if-holds.false, ne_eqb _ _ c.if-condition-eq0.false, c.agreed.ensures)
