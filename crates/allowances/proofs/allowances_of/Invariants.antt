-- `allowances::allowances_of` meets its contract. Assumes nothing.
use mathlib.Core.Path.{◌≡◌}
use lib.ListN.{drop}
use Rattle.allowances.specs.Allowances.{nothing, taken_all}
use Rattle.allowances.proofs.allowances_of.Given as goal

abbrev pub invariant-loop-i : goal.invariant-loop-i
invariant-loop-i l =
    taken_all l.r (drop l.i l.word) ≡ taken_all nothing l.word
