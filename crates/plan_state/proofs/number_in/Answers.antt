-- `plan_state::number_in` meets its contract. Assumes nothing.
use mathlib.Core.Path.{refl}
use Rattle.values.specs.Cells.{number_in}
use borrow.Author.Rules.{rules}
use Rattle.plan_state.proofs.number_in.Goals as goal

pub returns : goal.returns
unfolding number_in
returns c =
    refl
