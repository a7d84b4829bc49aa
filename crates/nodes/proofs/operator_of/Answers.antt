-- `nodes::operator_of` meets its contract, by the kind. Assumes nothing.
use mathlib.Core.Logic.{inl, inr}
use native.Mathlib.Omega.{arith}
use Rattle.nodes.specs.Cells.{node_of}
use Rattle.nodes.proofs.Cells.{operator-low, operator-high, operator-unary, operator-binary}
use Rattle.nodes.proofs.operator_of.Goals as goal

pub returns-then-k-lt11 : goal.returns-then-k-lt11
unfolding node_of
returns-then-k-lt11 c =
    elim c.then-k-lt11.either [
      | inl h ↦ operator-low c.args.k c.args.a c.args.b h
      | inr h ↦ operator-high c.args.k c.args.a c.args.b h.1
    ]

pub returns-then-k-le12 : goal.returns-then-k-le12
unfolding node_of
returns-then-k-le12 c =
    let given_args = c.args in
    operator-unary given_args.k given_args.a given_args.b (omega arith) c.if-k-le12.true

pub returns-else-k-le12 : goal.returns-else-k-le12
unfolding node_of
returns-else-k-le12 c =
    let given_args = c.args in
    operator-binary given_args.k given_args.a given_args.b c.if-k-le12.false (omega arith)
