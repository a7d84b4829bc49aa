-- `overview::heads::fill_thread` meets its contract. The loop's invariant: the heads of the places below `p` are noted. Assumes nothing.
use borrow.Author.Rules.{rules}
use mathlib.Core.Path.{◌≡◌, ap, ◌∙◌}
use Prim.Native.Nat.{◌≤◌}
use native.Mathlib.Omega.{arith}
use Rattle.overview.specs.Heads.{noted, notes, heads_in}
use Rattle.overview.proofs.Noting.{in-none, in-turn, in-most}
use Rattle.overview.proofs.heads.fill_thread.Given as goal

abbrev pub invariant-loop-p : goal.invariant-loop-p
invariant-loop-p l =
    (l.p ≤ l.n) × (noted l.heads l.k ≡ notes (noted l.initial.heads l.first) (heads_in l.sheet l.code l.thread l.p))
