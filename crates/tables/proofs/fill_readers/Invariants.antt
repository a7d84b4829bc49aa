-- `tables::fill_readers` meets its contract. The loop's invariant: the wires below `k` are marked. Assumes nothing.
use mathlib.Core.Path.{◌≡◌}
use Prim.Native.Nat.{◌≤◌}
use Rattle.tables.specs.Readers.{readers_below}
use Rattle.tables.proofs.fill_readers.Given as goal

abbrev pub invariant-loop-k : goal.invariant-loop-k
invariant-loop-k l =
    (l.k ≤ l.count) × (l.readers ≡ readers_below l.sheet l.definitions l.starts l.k l.initial.readers)
