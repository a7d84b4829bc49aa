-- `columns::choose` meets its contract. The loop's invariant: the names that are left come to what all names come to. Assumes nothing.
use Prim.Native.Nat.{◌≤◌, ◌-◌}
use mathlib.Core.Path.{◌≡◌}
use lib.ListN.{length}
use Rattle.columns.specs.Columns.{chosen_from, all_chosen}
use Rattle.columns.proofs.choose.Given as goal

abbrev pub invariant-loop-count : goal.invariant-loop-count
invariant-loop-count l =
    (l.count ≤ 80) × (l.from ≤ length l.word) × (chosen_from l.names l.n l.word (80 - l.count) l.from l.places l.count ≡ all_chosen l.names l.n l.word l.initial.places)
