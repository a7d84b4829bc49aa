-- `columns::name_end` meets its contract. The loop's invariant: the search from `i` on finds what the whole finds. Assumes nothing.
use mathlib.Core.Path.{◌≡◌}
use Prim.Native.Nat.{◌-◌, ◌≤◌}
use Rattle.std.specs.Prelude.{max}
use lib.ListN.{length}
use Rattle.stimulus.specs.Counting.{first_from}
use Rattle.columns.specs.Columns.{is_comma, name_end}
use Rattle.columns.proofs.name_end.Given as goal

abbrev pub invariant-loop-i : goal.invariant-loop-i
invariant-loop-i l =
    (l.i ≤ max l.from (length l.word)) × (first_from (is_comma l.word) (length l.word - l.i) l.i ≡ name_end l.word l.from)
