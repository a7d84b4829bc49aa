-- `outputs::common` meets its contract. The loop's invariant: the bytes that are passed and those that agree in the rests are as many as
-- agree in the whole. Assumes nothing.
use Prim.Native.Nat.{◌+◌, ◌≤◌}
use mathlib.Core.Path.{◌≡◌}
use lib.ListN.{length, drop}
use Rattle.outputs.specs.Outputs.{common}
use Rattle.outputs.proofs.common.Given as goal

abbrev pub invariant-loop-i : goal.invariant-loop-i
invariant-loop-i l =
    (l.i ≤ length l.a) × (l.i + common (drop l.i l.a) (drop l.i l.b) ≡ common l.a l.b)
