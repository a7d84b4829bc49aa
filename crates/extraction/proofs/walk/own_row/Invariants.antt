-- `walk::own_row` meets its contract. The loop's invariant: the registers below `r` have their own variables. Assumes nothing.
use mathlib.Core.Path.{◌≡◌, ap, ◌∙◌}
use Prim.Native.Nat.{◌≤◌}
use native.Mathlib.Omega.{arith}
use lib.ListN.{replicate}
use Rattle.extraction.specs.Walking.{fill_below, own_node, own_at}
use Rattle.extraction.proofs.Walking.{fill_none, fill-turn}
use borrow.Author.Rules.{rules}
use Rattle.extraction.proofs.walk.own_row.Given as goal

abbrev pub invariant-loop-r : goal.invariant-loop-r
invariant-loop-r l =
    (l.r ≤ 32) × (l.row ≡ fill_below (own_node l.inputs l.registers) l.r (replicate 32 0))
