-- `values::binary_width` meets its contract. Assumes nothing.
use Rattle.std.proofs.Common.{arith, ne_eqb}
use Rattle.values.specs.Operators.{binary_width}
use Rattle.values.proofs.binary_width.Goals as goal

pub returns-in-8 : goal.returns-in-8
unfolding binary_width
returns-in-8 c =
    rw c.in-8.is

pub returns-in-9 : goal.returns-in-9
unfolding binary_width
returns-in-9 c =
    rw c.in-9.is

pub returns-in_default : goal.returns-in_default
unfolding binary_width
returns-in_default c =
    simp (ne_eqb c.args.op 8 (omega arith), ne_eqb c.args.op 9 (omega arith))
