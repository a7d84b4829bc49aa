-- `extraction::copy_rows` meets its contract. The loop's invariant: the words below `i` are copied. Assumes nothing.
use mathlib.Core.Path.{◌≡◌, refl, ap, ◌∙◌}
use mathlib.Core.List.{◌++◌}
use Prim.Native.Nat.{◌≤◌}
use native.Mathlib.Omega.{arith}
use lib.ListN.{length, take, drop, length-set}
use Rattle.extraction.proofs.Words.{copy-turn, copy-end}
use borrow.Author.Rules.{rules}
use Rattle.extraction.proofs.copy_rows.Given as goal

abbrev pub invariant-loop-i : goal.invariant-loop-i
invariant-loop-i l =
    (l.i ≤ 1056) × (length l.to ≡ 1056) × (l.to ≡ take l.i l.from ++ drop l.i l.initial.to)
