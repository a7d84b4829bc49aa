-- `tables::watch_terms` meets its contract. The loop's invariant: the terms below `k` are marked. Assumes nothing.
use mathlib.Core.Path.{◌≡◌}
use Prim.Native.Nat.{◌≤◌}
use Rattle.tables.specs.Readers.{watch_terms}
use Rattle.tables.proofs.watch_terms.Given as goal

abbrev pub invariant-loop-k : goal.invariant-loop-k
invariant-loop-k l =
    (l.k ≤ l.n) × (l.watched ≡ watch_terms l.t l.k l.initial.watched)
