-- `clock_steps::store` meets its contract. The loop: the registers so far put back. Assumes nothing.
use mathlib.Core.Path.{◌≡◌}
use Prim.Native.Nat.{◌≤◌}
use Rattle.clock_steps.specs.Taking.{store_to}
use Rattle.clock_steps.proofs.store.Given as goal

abbrev pub invariant-loop-r : goal.invariant-loop-r
invariant-loop-r l =
    (l.r ≤ l.count) × (l.cells ≡ store_to l.news l.first l.r l.initial.cells)
