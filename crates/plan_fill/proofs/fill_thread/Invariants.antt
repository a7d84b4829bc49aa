-- `plan_fill::fill_thread` meets its contract. The loop's invariant: the places below `p` are filled. Assumes nothing.
use mathlib.Core.Path.{◌≡◌}
use Prim.Native.Nat.{◌≤◌}
use Rattle.plan_fill.specs.Filling.{up_to, filling, fill_place}
use Rattle.plan_fill.proofs.fill_thread.Given as goal

abbrev pub invariant-loop-p : goal.invariant-loop-p
invariant-loop-p l =
    (l.p ≤ l.n) × (filling l.free l.plan ≡ up_to (fill_place l.sheet l.code l.i) l.p (filling l.first l.initial.plan))
