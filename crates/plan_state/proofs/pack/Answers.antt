-- `plan_state::pack` meets its contract. Assumes nothing.
use mathlib.Core.Path.{refl}
use Rattle.plan_state.specs.Packing.{packed}
use borrow.Author.Rules.{rules}
use Rattle.plan_state.proofs.pack.Goals as goal

pub returns : goal.returns
unfolding packed
returns c =
    rw (
      c.flags-due.ensures,
      c.flags-held.ensures,
      c.unknowns_in-unsure.ensures,
      c.numbers_in-numbers.ensures,
      c.unknowns_in-unknown.ensures,
      c.numbers_in-value.ensures,
    )
    refl
