-- `masks::flags` meets its contract. The loop's invariant: the marks below `i` are those of the set.
-- Assumes nothing.
use mathlib.Core.Path.{◌≡◌}
use Prim.Native.Nat.{◌≤◌}
use lib.ListN.{length}
use Rattle.masks.specs.Masks.{bits}
use Rattle.masks.proofs.Loops.{Agree}
use Rattle.masks.proofs.flags.Given as goal

abbrev pub invariant-loop-i : goal.invariant-loop-i
invariant-loop-i l =
    (l.i ≤ 32) × (length l.out ≡ 32) × Agree l.i l.out (bits l.m)
