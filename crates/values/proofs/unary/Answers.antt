-- `values::unary` meets its contract. Assumes nothing.
use Rattle.std.proofs.Common.{ne_eqb}
use Rattle.values.specs.Operators.{unary}
use Rattle.values.proofs.unary.Goals as goal

pub returns-in-1 : goal.returns-in-1
unfolding unary
returns-in-1 c =
    rw (c.in-1.is, c.inverted.ensures)

pub returns-in-2 : goal.returns-in-2
unfolding unary
returns-in-2 c =
    rw (c.in-2.is, c.negated.ensures)

pub returns-in_default : goal.returns-in_default
unfolding unary
returns-in_default c =
    let r = c.in_default.in_default-own.rest in
    simp (ne_eqb _ _ r.0.1, ne_eqb _ _ r.1, c.all_unknown.ensures, c.unary_width.ensures)
