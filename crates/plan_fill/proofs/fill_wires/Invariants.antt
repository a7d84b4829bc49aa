-- `plan_fill::fill_wires` meets its contract. The loop's invariant: the wires below `k` are laid out. Assumes nothing.
use mathlib.Core.Path.{◌≡◌}
use Prim.Native.Nat.{◌≤◌}
use Rattle.plan_fill.specs.Filling.{up_to, filling, fill_wire}
use Rattle.plan_fill.proofs.fill_wires.Given as goal

abbrev pub invariant-loop-k : goal.invariant-loop-k
invariant-loop-k l =
    (l.k ≤ l.n) × (filling l.free l.plan ≡ up_to (fill_wire l.sheet l.starts) l.k (filling 80 l.initial.plan))
