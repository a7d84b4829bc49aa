-- `values::level` meets its contract. Assumes nothing.
use Rattle.std.proofs.Common.{arith, eq-eqb, ne_eqb}
use Rattle.values.specs.Edges.{level}
use Rattle.values.proofs.level.Goals as goal

pub returns-then-a-eq0 : goal.returns-then-a-eq0
unfolding level
returns-then-a-eq0 c =
    record { value = rw (eq-eqb _ _ c.if-a-eq0.true) (omega arith); upper_bound = omega arith }

pub returns-else-a-eq0 : goal.returns-else-a-eq0
unfolding level
returns-else-a-eq0 c =
    record { value = rw (ne_eqb _ _ c.if-a-eq0.false); upper_bound = omega arith }
