-- `values::negated` meets its contract. Assumes nothing.
use Rattle.std.proofs.Common.{sym, ◌∙◌, eq-eqb, ne_eqb}
use Rattle.values.specs.Operators.{negated}
use Rattle.values.proofs.negated.Goals as goal

pub returns-then-holds : goal.returns-then-holds
unfolding negated
returns-then-holds c =
    rw (sym c.holds.ensures ∙ c.if-holds.true, c.known.ensures)

pub returns-then-a-eq0 : goal.returns-then-a-eq0
unfolding negated
returns-then-a-eq0 c =
    rw (sym c.holds.ensures ∙ c.if-holds.false, eq-eqb _ _ c.if-a-eq0.true, c.known-then-a-eq0.ensures)

pub returns-else-a-eq0 : goal.returns-else-a-eq0
unfolding negated
returns-else-a-eq0 c =
    rw (sym c.holds.ensures ∙ c.if-holds.false, ne_eqb _ _ c.if-a-eq0.false, c.all_unknown.ensures)
