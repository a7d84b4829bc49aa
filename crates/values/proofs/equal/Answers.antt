-- `values::equal` meets its contract. Assumes nothing.
use Rattle.std.proofs.Common.{sym, ◌∙◌, eq-eqb, ne_eqb}
use Rattle.values.specs.Operators.{equal}
use Rattle.values.proofs.equal.Goals as goal

pub returns-then-outside-eq0 : goal.returns-then-outside-eq0
unfolding equal
returns-then-outside-eq0 c =
    let e = rw c.marked.ensures at c.outside.ensures in
    rw (eq-eqb _ _ (sym e ∙ c.if-outside-eq0.true), c.certain.ensures)

pub returns-else-outside-eq0 : goal.returns-else-outside-eq0
unfolding equal
returns-else-outside-eq0 c =
    let e = rw c.marked.ensures at c.outside.ensures in
    rw (ne_eqb _ _ (λ z. c.if-outside-eq0.false (e ∙ z)), c.known.ensures)
