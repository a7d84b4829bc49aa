-- `masks::mask_of` meets its contract. The loop's invariant: the marks below `i` are those of the
-- array, and none is up from `i` on. Assumes nothing.
use Prim.Native.Nat.{◌≤◌}
use Rattle.masks.specs.Masks.{bits}
use Rattle.masks.proofs.Loops.{Copied}
use Rattle.masks.proofs.mask_of.Given as goal

abbrev pub invariant-loop-i : goal.invariant-loop-i
invariant-loop-i l =
    (l.i ≤ 32) × Copied l.i (bits l.m) l.flags
