-- `values::edge_of` meets its contract. Assumes nothing.
use Rattle.std.proofs.Common.{ne_eqb}
use Rattle.values.specs.Edges.{edge_of}
use Rattle.values.proofs.edge_of.Goals as goal

pub returns-in-0 : goal.returns-in-0
unfolding edge_of
returns-in-0 c =
    rw c.in-0.is

pub returns-in-1 : goal.returns-in-1
unfolding edge_of
returns-in-1 c =
    rw c.in-1.is

pub returns-in_default : goal.returns-in_default
unfolding edge_of
returns-in_default c =
    simp (ne_eqb _ _ c.in_default.in_default-own.rest.0.1, ne_eqb _ _ c.in_default.in_default-own.rest.1)
