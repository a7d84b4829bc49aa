-- `tables::watch_thread` meets its contract. The loop's invariant: the variables that the instructions below `p` name are marked.
-- Assumes nothing.
use mathlib.Core.Path.{◌≡◌}
use Prim.Native.Nat.{◌≤◌}
use Rattle.tables.specs.Readers.{watch_thread}
use Rattle.tables.proofs.watch_thread.Given as goal

abbrev pub invariant-loop-p : goal.invariant-loop-p
invariant-loop-p l =
    (l.p ≤ l.n) × (l.watched ≡ watch_thread l.sheet l.code l.thread l.p l.initial.watched)
