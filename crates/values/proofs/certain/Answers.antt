-- `values::certain` meets its contract. Assumes nothing.
use Rattle.std.proofs.Common.{sym, ◌∙◌, eq-eqb, ne_eqb}
use Rattle.values.specs.Operators.{certain}
use Rattle.values.proofs.certain.Goals as goal

pub returns-then-marked-eq0 : goal.returns-then-marked-eq0
unfolding certain
returns-then-marked-eq0 c =
    rw (eq-eqb _ _ (sym c.marked.ensures ∙ c.if-marked-eq0.true), c.known.ensures)

pub returns-else-marked-eq0 : goal.returns-else-marked-eq0
unfolding certain
returns-else-marked-eq0 c =
    rw (ne_eqb _ _ (λ e. c.if-marked-eq0.false (c.marked.ensures ∙ e)), c.all_unknown.ensures)
