-- `overview::heads::fill_heads` meets its contract. The loop's invariant: the heads of the threads below `i` are noted. Assumes nothing.
use borrow.Author.Rules.{rules}
use mathlib.Core.Path.{◌≡◌, ap, ◌∙◌}
use Prim.Native.Nat.{◌≤◌}
use native.Mathlib.Omega.{arith}
use Rattle.rules.proofs.Counting.{size_of-most}
use Rattle.overview.specs.Heads.{noted, notes, heads_of}
use Rattle.overview.proofs.Noting.{of_none, of-turn, of-most}
use Rattle.overview.proofs.heads.fill_heads.Given as goal

abbrev pub invariant-loop-i : goal.invariant-loop-i
invariant-loop-i l =
    (l.i ≤ l.threads) × (noted l.heads l.k ≡ notes (noted l.initial.heads 0) (heads_of l.sheet l.code l.sizes l.i))
