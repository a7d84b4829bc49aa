-- `saved::bringing::widths_in` meets its contract. The loop's invariant: the elements so far are stored. Assumes nothing.
use Prim.Native.Nat.{◌≤◌}
use mathlib.Core.Path.{◌≡◌}
use lib.ListN.{length}
use lib.Seq.{sets}
use Rattle.saved.specs.Older.{width_in}
use Rattle.state.specs.Rows.{list_of}
use Rattle.saved.proofs.bringing.widths_in.Given as goal

abbrev pub invariant-loop-v : goal.invariant-loop-v
invariant-loop-v g l =
    (l.v ≤ g.row.N) × (length l.a ≡ g.row.N) × (l.a ≡ sets l.initial.a 0 (list_of l.v (width_in l.sheet l.first l.n)))
