-- `clock_run::take_values` meets its contract. The loop: the values so far taken. Assumes nothing.
use mathlib.Core.Path.{◌≡◌}
use Prim.Native.Nat.{◌≤◌}
use Rattle.clock_run.specs.Running.{numbers_to, marks_to}
use Rattle.clock_run.proofs.take_values.Given as goal

abbrev pub invariant-loop-r : goal.invariant-loop-r
invariant-loop-r l =
    (l.r ≤ l.n) × (l.value ≡ numbers_to l.cells l.first l.r l.initial.value) × (l.unknown ≡ marks_to l.cells l.first l.r l.initial.unknown)
