-- `prepared::due_below` meets its contract. The loop's invariant: the marks so far are those of the wires below `k`. Assumes nothing.
use mathlib.Core.Path.{◌≡◌}
use Prim.Native.Nat.{◌≤◌}
use Rattle.masks.specs.Masks.{bits}
use Rattle.events.specs.Calls.{due_below}
use Rattle.prepared.proofs.due_below.Given as goal

abbrev pub invariant-loop-k : goal.invariant-loop-k
invariant-loop-k l =
    (l.k ≤ l.n) × (bits l.due ≡ due_below l.k)
