-- `looping::body_at` meets its contract. The loop's invariant: `next` is the place of the counted thread's statement. Assumes nothing.
use mathlib.Core.Path.{◌≡◌, ap, ◌∙◌}
use Prim.Native.Nat.{◌≤◌}
use native.Mathlib.Omega.{arith}
use Rattle.witness.specs.Seeking.{body_at}
use Rattle.witness.proofs.Bodies.{body-none, body-turn}
use borrow.Author.Rules.{rules}
use Rattle.witness.proofs.looping.body_at.Given as goal

abbrev pub invariant-loop : goal.invariant-loop
invariant-loop l =
    (l.counter ≤ l.i) × (l.next ≡ body_at l.sheet l.definitions l.body l.counter)
