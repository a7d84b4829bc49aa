-- `plan_state::marked` meets its contract. Assumes nothing.
use mathlib.Core.Path.{refl}
use Rattle.plan_state.specs.Planes.{marked}
use borrow.Author.Rules.{rules}
use Rattle.plan_state.proofs.marked.Goals as goal

pub overflow_mul-result : goal.overflow_mul-result
unfolding marked
overflow_mul-result c =
    search rules

pub overflow_add-result : goal.overflow_add-result
unfolding marked
overflow_add-result c =
    search rules

pub returns : goal.returns
unfolding marked
returns c =
    refl
