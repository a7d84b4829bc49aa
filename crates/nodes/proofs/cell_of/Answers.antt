-- `nodes::cell_of` meets its contract, by the kind. Assumes nothing.
use borrow.Author.Rules.{rules}
use mathlib.Core.Path.{◌∙◌}
use Rattle.nextstate.specs.Nodes.{node_from}
use Rattle.nodes.specs.Cells.{node_of}
use Rattle.nodes.proofs.Cells.{from-operator}
use Rattle.nodes.proofs.cell_of.Goals as goal

pub returns-in-0 : goal.returns-in-0
unfolding node_of node_from
returns-in-0 c =
    rw c.in-0.is

pub returns-in-1 : goal.returns-in-1
unfolding node_of node_from
returns-in-1 c =
    rw c.in-1.is

pub returns-in-2 : goal.returns-in-2
unfolding node_of node_from
returns-in-2 c =
    rw c.in-2.is

pub returns-in-20 : goal.returns-in-20
unfolding node_of node_from
returns-in-20 c =
    rw c.in-20.is

pub returns-in-40 : goal.returns-in-40
unfolding node_of node_from
returns-in-40 c =
    rw c.in-40.is

pub returns-in_default : goal.returns-in_default
returns-in_default c =
    let given_args = c.args in
    let r = c.in_default.in_default-own.rest in
    c.operator_of.ensures ∙ from-operator given_args.k given_args.a given_args.b given_args.c r.0.0.0.0.1 r.0.0.0.1 r.0.0.1 r.0.1 r.1
