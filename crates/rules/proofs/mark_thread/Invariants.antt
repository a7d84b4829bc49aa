-- `rules::mark_thread` meets its contract. The loop's invariant: the variables that the instructions below `p` read are marked.
-- Assumes nothing.
use mathlib.Core.Path.{◌≡◌}
use Prim.Native.Nat.{◌≤◌}
use Rattle.rules.specs.Reading.{mark_thread}
use Rattle.rules.proofs.mark_thread.Given as goal

abbrev pub invariant-loop-p : goal.invariant-loop-p
invariant-loop-p l =
    (l.p ≤ l.n) × (l.reading ≡ mark_thread l.sheet l.definitions l.code l.thread l.p l.initial.reading)
