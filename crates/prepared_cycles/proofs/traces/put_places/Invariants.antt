-- `prepared_cycles::traces::put_places` meets its contract. The loop's invariant: the places so far are written. Assumes nothing.
use mathlib.Core.Path.{◌≡◌}
use Prim.Native.Nat.{◌≤◌}
use lib.ListN.{length, get_or}
use lib.Seq.{sets}
use Rattle.state.specs.Rows.{list_of}
use Rattle.prepared_cycles.proofs.traces.put_places.Given as goal

abbrev pub invariant-loop-i : goal.invariant-loop-i
invariant-loop-i l =
    (l.i ≤ 8) × (length l.out ≡ length l.initial.out) × (l.out ≡ sets l.initial.out l.at (list_of l.i (λ j. get_or l.stood j 0)))
