-- `plan_fill::watch_terms` meets its contract. The loop's invariant: the terms below `k` are marked. Assumes nothing.
use mathlib.Core.Path.{◌≡◌}
use Prim.Native.Nat.{◌≤◌}
use Rattle.plan_fill.specs.Filling.{up_to, watch_term}
use Rattle.plan_fill.proofs.watch_terms.Given as goal

abbrev pub invariant-loop-k : goal.invariant-loop-k
invariant-loop-k l =
    (l.k ≤ l.n) × (l.watchers ≡ up_to (watch_term l.i l.t) l.k l.initial.watchers)
