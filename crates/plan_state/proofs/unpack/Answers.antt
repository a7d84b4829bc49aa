-- `plan_state::unpack` meets its contract. Assumes nothing.
use mathlib.Core.Path.{refl}
use Rattle.plan_state.specs.Packing.{unpacked_in}
use borrow.Author.Rules.{rules}
use Rattle.plan_state.proofs.unpack.Goals as goal

pub returns : goal.returns
unfolding unpacked_in
returns c =
    rw (
      c.ready-ready.ensures,
      c.mask_of-held.ensures,
      c.mask_of-due.ensures,
      c.fill_cells.ensures,
    )
    refl
