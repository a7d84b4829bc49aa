-- `explaining::body_at` meets its contract. The loop's invariant: what is left of the threads leads to the place. Assumes nothing.
use Prim.Native.Nat.{◌≤◌, ◌-◌}
use mathlib.Core.Path.{◌≡◌}
use Rattle.explaining.specs.Walking.{body_at}
use Rattle.explaining.proofs.body_at.Given as goal

abbrev pub invariant-loop : goal.invariant-loop
invariant-loop l =
    (l.counter ≤ l.thread) × (body_at l.sheet l.definitions (l.thread - l.counter) l.at ≡ body_at l.sheet l.definitions l.thread l.body)
