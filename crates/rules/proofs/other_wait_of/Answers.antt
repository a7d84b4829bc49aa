-- `rules::other_wait_of` meets its contract. Assumes nothing.
use mathlib.Core.Logic.{inl, inr}
use Rattle.rules.specs.Judging.{other_wait_of}
use Rattle.rules.proofs.Awaited.{other-count, other-variable, other_edge}
use Rattle.rules.proofs.other_wait_of.Goals as goal

pub returns-in_default : goal.returns-in_default
unfolding other_wait_of
returns-in_default c =
    rw c.in_default.is

pub returns-then-t-ne1 : goal.returns-then-t-ne1
returns-then-t-ne1 c =
    elim c.then-t-ne1.either [
      | inl h ↦ other-count c.in-Wait.is h
      | inr h ↦ other-variable c.in-Wait.is h.0 h.1
    ]

pub returns : goal.returns
returns c =
    other_edge c.in-Wait.is c.if-t-ne1.false c.if-t-ne0.false c.other_edge.ensures
