-- `plan_fill::put_terms` meets its contract. The loop's invariant: the terms below `k` are put. Assumes nothing.
use mathlib.Core.Path.{◌≡◌}
use Prim.Native.Nat.{◌≤◌}
use Rattle.plan_fill.specs.Filling.{up_to, filling, put_term}
use Rattle.plan_fill.proofs.put_terms.Given as goal

abbrev pub invariant-loop-k : goal.invariant-loop-k
invariant-loop-k l =
    (l.k ≤ l.n) × (filling l.free l.plan ≡ up_to (put_term l.t) l.k (filling l.first l.initial.plan))
