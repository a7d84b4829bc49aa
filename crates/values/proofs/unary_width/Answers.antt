-- `values::unary_width` meets its contract. Assumes nothing.
use Rattle.std.proofs.Common.{eq-eqb, ne_eqb}
use Rattle.values.specs.Operators.{unary_width}
use Rattle.values.proofs.unary_width.Goals as goal

pub returns-then-op-eq2 : goal.returns-then-op-eq2
unfolding unary_width
returns-then-op-eq2 c =
    simp (eq-eqb _ _ c.if-op-eq2.true)

pub returns-else-op-eq2 : goal.returns-else-op-eq2
unfolding unary_width
returns-else-op-eq2 c =
    simp (ne_eqb _ _ c.if-op-eq2.false)
