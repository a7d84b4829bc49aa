-- `comparison::first_place` meets its contract. The loop's invariant: the search from `i` on finds what the whole finds. Assumes nothing.
use Prim.Native.Nat.{◌-◌}
use mathlib.Core.Path.{◌≡◌}
use Rattle.stimulus.specs.Counting.{first_from}
use Rattle.comparison.specs.Comparison.{places_differ}
use Rattle.comparison.proofs.first_place.Given as goal

abbrev pub invariant-loop-i : goal.invariant-loop-i
invariant-loop-i l =
    first_from (places_differ l.a l.b) (l.n - l.i) l.i ≡ first_from (places_differ l.a l.b) l.n 0
