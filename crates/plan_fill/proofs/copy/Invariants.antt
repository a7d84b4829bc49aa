-- `plan_fill::copy` meets its contract. The loop's invariant: the words below `k` are put. Assumes nothing.
use mathlib.Core.Path.{◌≡◌}
use Prim.Native.Nat.{◌≤◌}
use Rattle.plan_fill.specs.Filling.{up_to, copy_word}
use Rattle.plan_fill.proofs.copy.Given as goal

abbrev pub invariant-loop-k : goal.invariant-loop-k
invariant-loop-k l =
    (l.k ≤ 80) × (l.plan ≡ up_to (copy_word l.table l.base) l.k l.initial.plan)
