-- `saved::saving::put_slots` meets its contract. The loop's invariant: the rows so far are put. Assumes nothing.
use Prim.Native.Nat.{◌≤◌}
use mathlib.Core.Path.{◌≡◌}
use lib.Seq.{sets}
use Rattle.state.specs.Rows.{rows}
use Rattle.saved.specs.Saved.{slot_row}
use Rattle.saved.proofs.saving.put_slots.Given as goal

abbrev pub invariant-loop-r : goal.invariant-loop-r
invariant-loop-r l =
    (l.r ≤ 32) × (l.out ≡ sets l.initial.out 641 (rows l.r (slot_row l.held l.pending l.unsure)))
