-- `plan_fill::watch_threads` meets its contract. The loop's invariant: the threads below `i` are marked. Assumes nothing.
use mathlib.Core.Path.{◌≡◌}
use Prim.Native.Nat.{◌≤◌}
use Rattle.plan_fill.specs.Filling.{up_to, watch_thread}
use Rattle.plan_fill.proofs.watch_threads.Given as goal

abbrev pub invariant-loop-i : goal.invariant-loop-i
invariant-loop-i l =
    (l.i ≤ l.n) × (l.watchers ≡ up_to (watch_thread l.sheet l.code l.sizes) l.i l.initial.watchers)
