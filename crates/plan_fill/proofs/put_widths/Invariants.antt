-- `plan_fill::put_widths` meets its contract. The loop's invariant: the widths below `v` are put. Assumes nothing.
use mathlib.Core.Path.{◌≡◌}
use Prim.Native.Nat.{◌≤◌}
use Rattle.plan_fill.specs.Filling.{up_to, put_width}
use Rattle.plan_fill.proofs.put_widths.Given as goal

abbrev pub invariant-loop-v : goal.invariant-loop-v
invariant-loop-v l =
    (l.v ≤ l.n) × (l.plan ≡ up_to (put_width l.sheet l.at) l.v l.initial.plan)
