-- `filling::walk_first` meets its contract. The loop's invariant: the threads below `i` are walked. Assumes nothing.
use mathlib.Core.Path.{◌≡◌, ap, ◌∙◌}
use Prim.Native.Nat.{◌≤◌}
use native.Mathlib.Omega.{arith}
use Rattle.extraction.specs.Filling.{filling, threads_below_at}
use Rattle.extraction.proofs.Tables.{threads-none, threads-turn}
use borrow.Author.Rules.{rules}
use Rattle.extraction.proofs.filling.walk_first.Given as goal

abbrev pub invariant-loop-i : goal.invariant-loop-i
invariant-loop-i l =
    (l.i ≤ l.threads) × (filling l.x l.nodes l.rows ≡ threads_below_at l.sheet l.code l.sizes l.inputs l.registers l.plain l.later l.i (filling l.initial.x l.initial.nodes l.initial.rows))
