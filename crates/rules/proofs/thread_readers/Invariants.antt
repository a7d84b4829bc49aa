-- `rules::thread_readers` meets its contract. The loop's invariant: the threads below `i` are marked. Assumes nothing.
use mathlib.Core.Path.{◌≡◌}
use Prim.Native.Nat.{◌≤◌}
use Rattle.rules.specs.Reading.{reading_below}
use Rattle.rules.proofs.thread_readers.Given as goal

abbrev pub invariant-loop-i : goal.invariant-loop-i
invariant-loop-i l =
    (l.i ≤ l.count) × (l.reading ≡ reading_below l.sheet l.definitions l.code l.sizes l.i l.initial.reading)
