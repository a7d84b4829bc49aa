-- `saved::saving::put_due` meets its contract. The loop's invariant: the rows so far are put. Assumes nothing.
use Prim.Native.Nat.{◌≤◌}
use mathlib.Core.Path.{◌≡◌}
use lib.Seq.{sets}
use Rattle.state.specs.Rows.{rows}
use Rattle.saved.specs.Saved.{due_row}
use Rattle.saved.proofs.saving.put_due.Given as goal

abbrev pub invariant-loop-k : goal.invariant-loop-k
invariant-loop-k l =
    (l.k ≤ 32) × (l.out ≡ sets l.initial.out 937 (rows l.k (due_row l.due)))
