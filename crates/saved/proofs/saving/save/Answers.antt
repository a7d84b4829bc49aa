-- `saved::saving::save` meets its contract: its stores, one after the other, are those of the saved form. Assumes nothing.
use mathlib.Core.Path.{◌∙◌}
use Prim.Native.Nat.{ℕ}
use lib.ListN.{replicate, length-replicate}
use Rattle.saved.proofs.Saved.{sets-saved}
use Rattle.saved.proofs.Stores.{saved-sets}
use Rattle.saved.proofs.saving.save.Goals as goal

pub returns : goal.returns
returns c =
    let st = c.args.st in
    c.put_allowances.ensures
    ∙ rw (c.put_counts.ensures, c.put_long.ensures, c.put_due.ensures, c.put_places.ensures)
    (rw (c.put_slots.ensures, c.put_values.ensures) (saved-sets st (replicate 1025 0)))
    ∙ sets-saved st (replicate 1025 0) (length-replicate {A = ℕ} 1025 0)
