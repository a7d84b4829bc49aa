-- `rules::thread_writes` meets its contract. The loop's invariant: the marks are those of the instructions below `p`. Assumes nothing.
use mathlib.Core.Path.{◌≡◌}
use Prim.Native.Nat.{◌≤◌}
use Rattle.masks.specs.Masks.{bits}
use Rattle.rules.specs.Writers.{set_register, later_register, marks}
use Rattle.rules.proofs.thread_writes.Given as goal

abbrev pub invariant-loop-p : goal.invariant-loop-p
invariant-loop-p l =
    (l.p ≤ l.n) × (bits l.plain ≡ marks (set_register l.inputs) l.sheet l.code l.thread l.p)
    × (bits l.later ≡ marks (later_register l.inputs) l.sheet l.code l.thread l.p)
