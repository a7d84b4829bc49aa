-- `clock_run::put_values` meets its contract. The loop: the values so far put. Assumes nothing.
use mathlib.Core.Path.{◌≡◌}
use Prim.Native.Nat.{◌≤◌}
use Rattle.clock_run.specs.Running.{put_values}
use Rattle.clock_run.proofs.put_values.Given as goal

abbrev pub invariant-loop-v : goal.invariant-loop-v
invariant-loop-v l =
    (l.v ≤ l.n) × (l.cells ≡ put_values l.value l.unknown l.first l.at l.v l.initial.cells)
