-- `walk::join` meets its contract. The loop's invariant: the registers below `r` are merged. Assumes nothing.
use mathlib.Core.Path.{◌≡◌, ap, ◌∙◌}
use Prim.Native.Nat.{◌≤◌}
use native.Mathlib.Omega.{arith}
use Rattle.extraction.specs.Walking.{walking, walked, merge_below}
use Rattle.extraction.proofs.Walking.{merge_none, merge-turn, join-path}
use borrow.Author.Rules.{rules}
use Rattle.extraction.proofs.walk.join.Given as goal

abbrev pub invariant-loop-r : goal.invariant-loop-r
invariant-loop-r l =
    (l.r ≤ 32) × (walking (walked l.count 0 l.row) l.nodes ≡ merge_below l.written l.c l.a l.b l.r l.initial.nodes)
