-- `filling::put_row` meets its contract. The loop's invariant: the registers below `k` are stored. Assumes nothing.
use mathlib.Core.Path.{◌≡◌, refl, ap, ◌∙◌}
use Prim.Native.Nat.{◌≤◌}
use native.Mathlib.Omega.{arith}
use Rattle.extraction.specs.Filling.{row_below}
use Rattle.extraction.proofs.Tables.{row-none, row-turn, put-row-path}
use borrow.Author.Rules.{rules}
use Rattle.extraction.proofs.filling.put_row.Given as goal

abbrev pub invariant-loop-k : goal.invariant-loop-k
invariant-loop-k l =
    (l.k ≤ 32) × (l.rows ≡ row_below l.r l.w.registers l.k l.initial.rows)
