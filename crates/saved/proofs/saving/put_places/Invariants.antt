-- `saved::saving::put_places` meets its contract. The loop's invariant: the rows so far are put. Assumes nothing.
use Prim.Native.Nat.{◌≤◌}
use mathlib.Core.Path.{◌≡◌}
use lib.Seq.{sets}
use Rattle.state.specs.Rows.{rows}
use Rattle.saved.specs.Saved.{place_row}
use Rattle.saved.proofs.saving.put_places.Given as goal

abbrev pub invariant-loop-i : goal.invariant-loop-i
invariant-loop-i l =
    (l.i ≤ 8) × (l.out ≡ sets l.initial.out 929 (rows l.i (place_row l.places)))
