-- `labels::is_taken` meets its contract. The loop's invariant: the search from `u` on finds what the whole finds. Assumes nothing.
use mathlib.Core.Path.{◌≡◌}
use Prim.Native.Nat.{◌-◌}
use Rattle.stimulus.specs.Counting.{first_from}
use Rattle.labels.specs.Labels.{is_other}
use Rattle.labels.proofs.is_taken.Given as goal

abbrev pub invariant-loop-u : goal.invariant-loop-u
invariant-loop-u l =
    first_from (is_other l.names l.v l.name) (80 - l.u) l.u ≡ first_from (is_other l.names l.v l.name) 80 0
