-- `tables::fill_watched` meets its contract. The loop's invariant: the variables that the threads below `i` name are marked.
-- Assumes nothing.
use mathlib.Core.Path.{◌≡◌}
use Prim.Native.Nat.{◌≤◌}
use Rattle.tables.specs.Readers.{watched_below}
use Rattle.tables.proofs.fill_watched.Given as goal

abbrev pub invariant-loop-i : goal.invariant-loop-i
invariant-loop-i l =
    (l.i ≤ l.count) × (l.watched ≡ watched_below l.sheet l.code l.sizes l.i l.initial.watched)
