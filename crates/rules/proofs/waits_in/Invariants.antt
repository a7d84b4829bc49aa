-- `rules::waits_in` meets its contract. The loop's invariant: the waits below `p` are counted. Assumes nothing.
use mathlib.Core.Path.{◌≡◌}
use Prim.Native.Nat.{◌≤◌}
use Rattle.rules.specs.Judging.{waits_in}
use Rattle.rules.proofs.waits_in.Given as goal

abbrev pub invariant-loop-p : goal.invariant-loop-p
invariant-loop-p l =
    (l.p ≤ l.n) × (l.count ≡ waits_in l.sheet l.code l.thread l.p)
