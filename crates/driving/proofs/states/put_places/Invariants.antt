-- `driving::states::put_places` meets its contract. The loop's invariant: the places so far are written. Assumes nothing.
use mathlib.Core.Path.{◌≡◌}
use Prim.Native.Nat.{◌≤◌}
use lib.ListN.{get_or}
use lib.Seq.{sets}
use Rattle.state.specs.Rows.{list_of}
use Rattle.driving.proofs.states.put_places.Given as goal

abbrev pub invariant-loop-i : goal.invariant-loop-i
invariant-loop-i l =
    (l.i ≤ 8) × (l.row ≡ sets l.initial.row 80 (list_of l.i (λ j. get_or l.places j 0)))
