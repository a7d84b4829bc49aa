-- `clock_run::put_row` meets its contract. The loop: the words so far put. Assumes nothing.
use mathlib.Core.Path.{◌≡◌}
use Prim.Native.Nat.{◌≤◌}
use lib.ListN.{length}
use Rattle.clock_run.specs.Traces.{word_of, put_words}
use Rattle.clock_run.proofs.put_row.Given as goal

abbrev pub invariant-loop-k : goal.invariant-loop-k
invariant-loop-k l =
    (l.k ≤ 88) × (length l.out ≡ length l.initial.out) × (l.out ≡ put_words (word_of l.end l.clock l.cells l.places) l.at l.k l.initial.out)
