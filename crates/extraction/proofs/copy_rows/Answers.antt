-- `extraction::copy_rows` meets its contract. The loop's invariant: the words below `i` are copied. Assumes nothing.
use mathlib.Core.Path.{◌≡◌, refl, ap, ◌∙◌}
use mathlib.Core.List.{◌++◌}
use Prim.Native.Nat.{ℕ, ◌-◌, ◌≤◌}
use native.Mathlib.Omega.{arith}
use lib.ListN.{length, take, drop, length-set}
use Rattle.extraction.proofs.Words.{copy-turn, copy-end}
use borrow.Author.Rules.{rules}
use Rattle.extraction.proofs.copy_rows.Goals as goal

pub loop-i-init : goal.loop-i-init
loop-i-init c =
    (search rules, search rules, refl)
