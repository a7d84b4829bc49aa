-- `driving::states::put_words` meets its contract. The loop's invariant: the words so far are written. Assumes nothing.
use mathlib.Core.Path.{◌≡◌}
use Prim.Native.Nat.{◌≤◌}
use lib.Seq.{sets}
use Rattle.values.specs.Planes.{value_at}
use Rattle.values.specs.Cells.{cell_of}
use Rattle.state.specs.Rows.{list_of}
use Rattle.driving.proofs.states.put_words.Given as goal

abbrev pub invariant-loop-v : goal.invariant-loop-v
invariant-loop-v l =
    (l.v ≤ 80) × (l.row ≡ sets l.initial.row 0 (list_of l.v (λ j. cell_of (value_at l.value l.unknown j))))
