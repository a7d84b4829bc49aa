-- The loop: what is filled so far, then the functions that are left, is the whole. Assumes nothing.
use Prim.Native.Nat.{◌-◌, ◌≤◌}
use mathlib.Core.Path.{◌≡◌}
use lib.ListN.{length, replicate}
use Rattle.bodies.specs.Laying.{laid, lay_from}
use Rattle.bodies.proofs.fill_bodies.Given as goal

abbrev pub invariant-loop-k : goal.invariant-loop-k
invariant-loop-k l =
    (l.k ≤ l.count) × (length l.starts ≡ 8)
    × (length l.ends ≡ 8)
    × (lay_from l.sheet l.definitions (l.count - l.k) l.k (laid l.place l.starts l.ends l.code)
    ≡ lay_from l.sheet l.definitions l.count 0 (laid 0 (replicate 8 0) (replicate 8 0) l.initial.code))
