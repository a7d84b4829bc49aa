-- `plan_nodes::leaf` meets its contract, by the kind.
use native.Mathlib.Omega.{arith}
use Rattle.values.specs.Cells.{cell_at}
use Rattle.plan_nodes.proofs.Nodes.{known-cell, leaf-constant, leaf-variable, leaf-none}
use Rattle.plan_nodes.proofs.leaf.Goals as goal

pub returns-in-1 : goal.returns-in-1
returns-in-1 c =
    rw (leaf-constant _ _ _ _ _ c.in-1.is, known-cell)

pub returns-in-0 : goal.returns-in-0
unfolding cell_at
returns-in-0 c =
    let k = c.in-0.is in
    rw (c.store.ensures, c.load.ensures, c.slot.ensures.value, leaf-variable _ _ _ _ _ (λ e. omega arith) k)

pub returns-in_default : goal.returns-in_default
returns-in_default c =
    let r = c.in_default.in_default-own.rest in
    rw (c.store-in_default.ensures, c.all_unknown.ensures, c.low.ensures, leaf-none _ _ _ _ _ r.0.1 r.1)
