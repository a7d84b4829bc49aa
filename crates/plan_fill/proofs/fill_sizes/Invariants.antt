-- `plan_fill::fill_sizes` meets its contract. The loop's invariant: the sizes below `i` are put. Assumes nothing.
use mathlib.Core.Path.{◌≡◌}
use Prim.Native.Nat.{◌≤◌}
use Rattle.plan_fill.specs.Filling.{up_to, put_size}
use Rattle.plan_fill.proofs.fill_sizes.Given as goal

abbrev pub invariant-loop-i : goal.invariant-loop-i
invariant-loop-i l =
    (l.i ≤ 8) × (l.plan ≡ up_to (put_size l.sizes) l.i l.initial.plan)
