-- `plan_fill::fill_threads` meets its contract. The loop's invariant: the threads below `i` are filled. Assumes nothing.
use mathlib.Core.Path.{◌≡◌}
use Prim.Native.Nat.{◌≤◌}
use Rattle.plan_fill.specs.Filling.{up_to, filling, fill_thread}
use Rattle.plan_fill.proofs.fill_threads.Given as goal

abbrev pub invariant-loop-i : goal.invariant-loop-i
invariant-loop-i l =
    (l.i ≤ l.n) × (filling l.free l.plan ≡ up_to (fill_thread l.sheet l.code l.sizes) l.i (filling l.first l.initial.plan))
