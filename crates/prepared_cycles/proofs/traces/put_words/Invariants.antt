-- `prepared_cycles::traces::put_words` meets its contract. The loop's invariant: the words so far are written. Assumes nothing.
use mathlib.Core.Path.{◌≡◌}
use Prim.Native.Nat.{◌≤◌}
use lib.ListN.{length, get_or}
use lib.Seq.{sets}
use Rattle.state.specs.Rows.{list_of}
use Rattle.prepared_cycles.specs.Traces.{word_in}
use Rattle.prepared_cycles.proofs.traces.put_words.Given as goal

abbrev pub invariant-loop-v : goal.invariant-loop-v
invariant-loop-v l =
    (l.v ≤ 80) × (length l.out ≡ length l.initial.out) × (l.out ≡ sets l.initial.out l.at (list_of l.v (λ j. word_in (get_or l.cells j 0))))
