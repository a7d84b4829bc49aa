-- `comparison::first_variable` meets its contract. The loop's invariant: the search from `v` on finds what the whole finds.
-- Assumes nothing.
use Prim.Native.Nat.{◌-◌}
use mathlib.Core.Path.{◌≡◌}
use Rattle.stimulus.specs.Counting.{first_from}
use Rattle.comparison.specs.Comparison.{values_differ}
use Rattle.comparison.proofs.first_variable.Given as goal

abbrev pub invariant-loop-v : goal.invariant-loop-v
invariant-loop-v l =
    first_from (values_differ l.a l.b) (l.to - l.v) l.v ≡ first_from (values_differ l.a l.b) (l.to - l.from) l.from
