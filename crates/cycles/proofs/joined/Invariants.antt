-- `cycles::joined` meets its contract. The loop: the threads so far joined. Assumes nothing.
use Prim.Native.Nat.{◌≤◌}
use Rattle.cycles.proofs.Masks.{Joined}
use Rattle.cycles.proofs.joined.Given as goal

abbrev pub invariant-loop-i : goal.invariant-loop-i
invariant-loop-i l =
    (l.i ≤ 8) × Joined l.plain l.later l.i l.out
