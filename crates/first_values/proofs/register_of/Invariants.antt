-- `first_values::register_of` meets its contract. The loop's invariant: the search from `v` on finds what all finds. Assumes nothing.
use Rattle.std.proofs.Common.{◌≡◌, ◌-◌}
use Rattle.stimulus.specs.Counting.{first_from}
use Rattle.first_values.specs.FirstValues.{is_named, register_of}
use Rattle.first_values.proofs.register_of.Given as goal

abbrev pub invariant-loop-v : goal.invariant-loop-v
invariant-loop-v l =
    first_from (is_named l.names l.word) (l.to - l.v) l.v ≡ register_of l.names l.from l.to l.word
