-- `saved::saving::put_counts` meets its contract. The loop's invariant: the rows so far are put. Assumes nothing.
use Prim.Native.Nat.{◌≤◌}
use mathlib.Core.Path.{◌≡◌}
use lib.ListN.{get_or}
use lib.Seq.{sets}
use Rattle.state.specs.Rows.{rows}
use Rattle.saved.specs.Saved.{long_bytes}
use Rattle.saved.proofs.saving.put_counts.Given as goal

abbrev pub invariant-loop-u : goal.invariant-loop-u
invariant-loop-u l =
    (l.u ≤ 4) × (l.out ≡ sets l.initial.out 977 (rows l.u (λ k. long_bytes (get_or l.counts k 0))))
