-- `columns::variable_of` meets its contract. The loop's invariant: the search from `v` on finds what the whole finds. Assumes nothing.
use mathlib.Core.Path.{◌≡◌}
use Prim.Native.Nat.{◌-◌}
use Rattle.stimulus.specs.Counting.{first_from}
use Rattle.columns.specs.Columns.{is_named, variable_of}
use Rattle.columns.proofs.variable_of.Given as goal

abbrev pub invariant-loop-v : goal.invariant-loop-v
invariant-loop-v l =
    first_from (is_named l.names l.word) (l.n - l.v) l.v ≡ variable_of l.names l.n l.word
