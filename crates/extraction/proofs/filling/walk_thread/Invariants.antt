-- `filling::walk_thread` meets its contract. The loop's invariant: the waits below `place` are walked from. Assumes nothing.
use mathlib.Core.Path.{◌≡◌, ap, ◌∙◌}
use Prim.Native.Nat.{◌≤◌}
use native.Mathlib.Omega.{arith}
use Rattle.extraction.specs.Filling.{filling, walks_below_at}
use Rattle.extraction.proofs.Tables.{walks-none, walks_turn}
use borrow.Author.Rules.{rules}
use Rattle.extraction.proofs.filling.walk_thread.Given as goal

abbrev pub invariant-loop-place : goal.invariant-loop-place
invariant-loop-place l =
    (l.place ≤ l.size) × (filling l.x l.nodes l.rows ≡ walks_below_at l.sheet l.code l.t l.size l.place (filling l.initial.x l.initial.nodes l.initial.rows))
