-- `first_values::run_end` meets its contract. The loop's invariant: the search from `i` on finds what the whole finds. Assumes nothing.
use Rattle.std.proofs.Common.{◌≡◌, ◌≤◌, ◌-◌, length}
use Rattle.std.specs.Prelude.{max}
use Rattle.stimulus.specs.Counting.{first_from}
use Rattle.first_values.specs.FirstValues.{ends, run_end}
use Rattle.first_values.proofs.run_end.Given as goal

abbrev pub invariant-loop-i : goal.invariant-loop-i
invariant-loop-i l =
    (l.i ≤ max l.from (length l.line)) × (first_from (ends l.blank l.line) (length l.line - l.i) l.i ≡ run_end l.blank l.line l.from)
