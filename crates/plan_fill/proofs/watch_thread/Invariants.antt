-- `plan_fill::watch_thread` meets its contract. The loop's invariant: the places below `p` are marked. Assumes nothing.
use mathlib.Core.Path.{◌≡◌}
use Prim.Native.Nat.{◌≤◌}
use Rattle.plan_fill.specs.Filling.{up_to, watch_place}
use Rattle.plan_fill.proofs.watch_thread.Given as goal

abbrev pub invariant-loop-p : goal.invariant-loop-p
invariant-loop-p l =
    (l.p ≤ l.n) × (l.watchers ≡ up_to (watch_place l.sheet l.code l.i) l.p l.initial.watchers)
