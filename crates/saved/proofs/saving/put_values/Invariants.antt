-- `saved::saving::put_values` meets its contract. The loop's invariant: the rows so far are put. Assumes nothing.
use Prim.Native.Nat.{◌≤◌}
use mathlib.Core.Path.{◌≡◌}
use lib.Seq.{sets}
use Rattle.state.specs.Rows.{rows}
use Rattle.saved.specs.Saved.{value_row}
use Rattle.saved.proofs.saving.put_values.Given as goal

abbrev pub invariant-loop-v : goal.invariant-loop-v
invariant-loop-v l =
    (l.v ≤ 80) × (l.out ≡ sets l.initial.out 1 (rows l.v (value_row l.value l.unknown)))
