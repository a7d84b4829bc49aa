-- `rules::other_edge` meets its contract. Assumes nothing.
use mathlib.Core.Logic.{inl, inr}
use mathlib.Core.Path.{refl}
use Rattle.nextstate.specs.Rules.{is_posedge}
use Rattle.rules.proofs.other_edge.Goals as goal

pub returns-in-Change : goal.returns-in-Change
unfolding is_posedge
returns-in-Change c =
    elim c.in-Change.is [
      | inl q ↦ rw q refl
      | inr q ↦ rw q refl
    ]

pub returns-in_default : goal.returns-in_default
unfolding is_posedge
returns-in_default c =
    rw c.in_default.is refl
