-- `coded::first_coded` meets its contract. The loop's invariant: the test holds of no number below `k`. Assumes nothing.
use mathlib.Core.Path.{◌≡◌}
use mathlib.Core.Bool.{false}
use Prim.Native.Nat.{◌≤◌}
use native.Mathlib.Omega.{arith}
use Rattle.events.specs.Cycle.{any_below}
use Rattle.rules.proofs.Tests.{any-start, any-turn}
use Rattle.witness.specs.Seeking.{by_code}
use Rattle.witness.proofs.Lowest.{lowest-found, lowest-end}
use borrow.Author.Rules.{rules}
use Rattle.witness.proofs.coded.first_coded.Given as goal

abbrev pub invariant-loop-k : goal.invariant-loop-k
invariant-loop-k l =
    (l.k ≤ l.n) × (any_below l.k (by_code l.sheet l.layout l.code l.sizes l.plain l.later l.test) ≡ false)
