-- `plan_state::marks_in` meets its contract. Assumes nothing.
use mathlib.Core.Path.{refl}
use Rattle.values.specs.Cells.{marks_in}
use borrow.Author.Rules.{rules}
use Rattle.plan_state.proofs.marks_in.Goals as goal

pub returns : goal.returns
unfolding marks_in
returns c =
    refl
