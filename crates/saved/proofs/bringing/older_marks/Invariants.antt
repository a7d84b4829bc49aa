-- `saved::bringing::older_marks` meets its contract. The loop's invariant: the elements so far are stored, and the place is the next one's. Assumes nothing.
use Prim.Native.Nat.{◌≤◌, ◌+◌, ◌*◌}
use mathlib.Core.Path.{◌≡◌}
use lib.ListN.{length, get_or}
use lib.Seq.{sets}
use Rattle.values.specs.Planes.{marks_of}
use Rattle.saved.specs.Older.{older_value}
use Rattle.state.specs.Rows.{list_of}
use Rattle.saved.proofs.bringing.older_marks.Given as goal

abbrev pub invariant-loop-v : goal.invariant-loop-v
invariant-loop-v g l =
    (l.v ≤ g.row.N) × (length l.a ≡ g.row.N) × (l.p ≤ l.at + 9 * l.v) × (l.p ≡ l.at + l.step * l.v)
    × (l.a ≡ sets l.initial.a 0 (list_of l.v (λ j. marks_of (older_value (get_or l.widths j 0) l.bytes (l.at + l.step * j)))))
