-- `clock_steps::load` meets its contract. The loop: the registers so far copied. Assumes nothing.
use mathlib.Core.Path.{◌≡◌}
use Prim.Native.Nat.{◌≤◌}
use Rattle.clock_steps.specs.Taking.{load_to}
use Rattle.clock_steps.proofs.load.Given as goal

abbrev pub invariant-loop-r : goal.invariant-loop-r
invariant-loop-r l =
    (l.r ≤ l.count) × (l.news ≡ load_to l.cells l.first l.r l.initial.news)
